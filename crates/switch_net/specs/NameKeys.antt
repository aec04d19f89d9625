-- The names of pads as keys of ordered maps and sets.
use Rattle.std.specs.Prelude.{ℕ, ◌==◌, Bool, ◌&&◌, List, Option, option_map}
use Rattle.std.specs.declared.cmp.Ordering.{Ordering}
use Rattle.std.specs.Ordering.{ordering_then, nat_cmp}
use Rattle.std.specs.Cmp.Lexicographic.{slice_cmp}
use Rattle.std.specs.Option.{option_cmp, option_eq}
use Rattle.std.specs.Str.{bytes_eq}
use Rattle.std.specs.Borrow.{Bor}
use Rattle.rx_text.specs.Role.{NamedRole}
use Rattle.switch_net.specs.Validity.{role_number}

-- the number of a role, and the name beside it
abbrev pub NameKey : Type 0
NameKey = ℕ × Option (Bor (List ℕ))

-- the order of the keys: by role, and then by the bytes of the name
abbrev pub compare_keys : NameKey → NameKey → Ordering
compare_keys a b = ordering_then (nat_cmp a.0 b.0) (option_cmp (λ x y. slice_cmp nat_cmp x.now y.now) a.1 b.1)

-- the bytes of the name
abbrev pub bytes_of : Option (Bor (List ℕ)) → Option (List ℕ)
bytes_of name = option_map (λ bytes. bytes.now) name

-- the name has this key
abbrev pub has_key : NamedRole → NameKey → Bool
has_key name key = role_number name.role == key.0 && option_eq bytes_eq name.name (bytes_of key.1)
