-- What holds of the value in an answer.
use Rattle.std.proofs.Common.{Result, Ok, Err}
use Rattle.std.specs.Prelude.{IfOk}

module _ {T E : Type 0} (P : T → Type 0) where
  pub if_always : (r : Result T E) → ((x : T) → P x) → IfOk r P
  if_always (Ok x) f = f x
  if_always (Err e) f = tt

  pub if_both : (Q R : T → Type 0) (r : Result T E) → ((x : T) → P x → Q x → R x) → IfOk r P → IfOk r Q → IfOk r R
  if_both Q R (Ok x) f p q = f x p q
  if_both Q R (Err e) f p q = tt

  pub if_then : (Q : T → Type 0) (r : Result T E) → ((x : T) → P x → Q x) → IfOk r P → IfOk r Q
  if_then Q (Ok x) f p = f x p
  if_then Q (Err e) f p = tt
