-- Names of pads that are the same, and keys that are theirs.
use Rattle.std.proofs.Common.{◌≡◌, ℕ, ◌==◌, IsTrue, if◌then◌else◌, List, Option, Some, None, Decides, refl, sym, ap, ap₂, ◌∙◌}
use Rattle.std.specs.Option.{option_eq}
use Rattle.std.specs.Str.{bytes_eq}
use Rattle.std.proofs.lemmas.Bool.Decides.{Decides-and, Decides-eqb, Decides-like}
use Rattle.std.proofs.lemmas.Slice.Eq.{bytes_eq-Decides}
use Rattle.rx_text.specs.Role.{NamedRole}
use Rattle.rx_text.specs.declared.pad_name.Role.{Role}
use Rattle.rx_text.specs.declared.pad_name.Role.TheVariants.{Vdd, Gnd, Phi1, Phi2, Reset, Input, Output}
use Rattle.switch_net.specs.NameKeys.{NameKey, bytes_of, has_key}
use Rattle.switch_net.specs.Validity.{role_number, is_same_role, is_same_name}

role_at : ℕ → Role
role_at n =
    if n == 0 then Vdd
    else (if n == 1 then Gnd
    else (if n == 2 then Phi1 else (if n == 3 then Phi2 else (if n == 4 then Reset else (if n == 5 then Input else Output)))))

role_at-number : (r : Role) → role_at (role_number r) ≡ r
unfolding role_at
role_at-number Vdd = refl
role_at-number Gnd = refl
role_at-number Phi1 = refl
role_at-number Phi2 = refl
role_at-number Reset = refl
role_at-number Input = refl
role_at-number Output = refl

same_number : (a b : Role) → role_number a ≡ role_number b → a ≡ b
same_number a b e = sym (role_at-number a) ∙ ap role_at e ∙ role_at-number b

pub decides_role : (a b : Role) → Decides (is_same_role a b) (a ≡ b)
decides_role a b =
    Decides-like _ (λ e. same_number a b e) (λ e. ap (λ r. role_number r) e) (Decides-eqb (role_number a) (role_number b))

decides_text : (a b : Option (List ℕ)) → Decides (option_eq bytes_eq a b) (a ≡ b)
decides_text None None = (λ _. refl, λ _. refl)
decides_text None (Some y) = (λ e. cc, λ e. cc)
decides_text (Some x) None = (λ e. cc, λ e. cc)
decides_text (Some x) (Some y) = Decides-like _ (λ e. ap (λ z. Some z) e) (λ e. cc) (bytes_eq-Decides x y)

pub same_parts : (a b : NamedRole) → a.role ≡ b.role → a.name ≡ b.name → a ≡ b
same_parts a b e f = let name_of : Role → Option (List ℕ) → NamedRole = λ r n. record { role = r; name = n } in ap₂ name_of e f

pub decides_name : (a b : NamedRole) → Decides (is_same_name a b) (a ≡ b)
decides_name a b =
    Decides-like _ (λ h. same_parts a b h.0 h.1) (λ e. (ap (λ n. n.role) e, ap (λ n. n.name) e))
    (Decides-and _ _ (decides_role a.role b.role) (decides_text a.name b.name))

decides_key : (name : NamedRole) (key : NameKey) → Decides (has_key name key) ((role_number name.role ≡ key.0) × (name.name ≡ bytes_of key.1))
decides_key name key = Decides-and _ _ (Decides-eqb (role_number name.role) key.0) (decides_text name.name (bytes_of key.1))

-- one name alone has the key
pub one_name : (a b : NamedRole) (key : NameKey) → key.0 ≡ role_number b.role → bytes_of key.1 ≡ b.name → Decides (has_key a key) (a ≡ b)
one_name a b key role bytes =
    Decides-like _ (λ h. same_parts a b (same_number a.role b.role (h.0 ∙ role)) (h.1 ∙ bytes))
    (λ e. (ap (λ n. role_number n.role) e ∙ sym role, ap (λ n. n.name) e ∙ sym bytes)) (decides_key a key)

-- two names with one key are the same
pub two_names : (a b : NamedRole) (key : NameKey) → IsTrue (has_key a key) → IsTrue (has_key b key) → a ≡ b
two_names a b key h k =
    let p = (decides_key a key).0 h in let q = (decides_key b key).0 k in
    same_parts a b (same_number a.role b.role (p.0 ∙ sym q.0)) (p.1 ∙ sym q.1)
