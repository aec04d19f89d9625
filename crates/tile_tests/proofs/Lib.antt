mod SameSquares
