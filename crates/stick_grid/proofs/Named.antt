-- Paths of meeting nets, and names that tell which nets are joined.
use Rattle.std.proofs.Common.{◌≡◌, ℕ, refl, sym, ◌∙◌, subst}
use Rattle.stick_grid.specs.Plans.{Plan}
use Rattle.stick_grid.specs.Pieces.{Piece, Connected}
use Rattle.stick_grid.specs.Pieces.Connected.{same, east, west, south, north}
use Rattle.stick_grid.specs.Names.{AreNames, NamesAreNets, PlansHavePaths}

module _ (plan : Plan) where
  pub goes_on : (a b c : Piece) → Connected plan a b → Connected plan b c → Connected plan a c
  goes_on _ _ c (same a) rest = rest
  goes_on _ _ c (east a m b h more) rest = east a m c h (goes_on m b c more rest)
  goes_on _ _ c (west a m b h more) rest = west a m c h (goes_on m b c more rest)
  goes_on _ _ c (south a m b h more) rest = south a m c h (goes_on m b c more rest)
  goes_on _ _ c (north a m b h more) rest = north a m c h (goes_on m b c more rest)

  pub leads_back : (a b : Piece) → Connected plan a b → Connected plan b a
  leads_back _ _ (same a) = same a
  leads_back _ _ (east a m b h rest) = goes_on b m a (leads_back m b rest) (west m a a h (same a))
  leads_back _ _ (west a m b h rest) = goes_on b m a (leads_back m b rest) (east m a a h (same a))
  leads_back _ _ (south a m b h rest) = goes_on b m a (leads_back m b rest) (north m a a h (same a))
  leads_back _ _ (north a m b h rest) = goes_on b m a (leads_back m b rest) (south m a a h (same a))

pub plans_have_paths : PlansHavePaths
plans_have_paths plan = record { on = goes_on plan; back = leads_back plan }

-- Nets that are joined have one name.
one_name : (plan : Plan) (count : ℕ) (name : Piece → ℕ) → AreNames plan count name → (p q : Piece) → Connected plan p q → name p ≡ name q
one_name plan count name names _ _ (same a) = refl
one_name plan count name names _ _ (east a m b h rest) = names.eastward a m h ∙ one_name plan count name names m b rest
one_name plan count name names _ _ (west a m b h rest) = sym (names.eastward m a h) ∙ one_name plan count name names m b rest
one_name plan count name names _ _ (south a m b h rest) = names.southward a m h ∙ one_name plan count name names m b rest
one_name plan count name names _ _ (north a m b h rest) = sym (names.southward m a h) ∙ one_name plan count name names m b rest

pub names_are_nets : NamesAreNets
names_are_nets plan count name p q names is_p is_q = (
  λ e.
      let to_q = leads_back plan q (names.home (name q)) (names.leads q is_q) in
      goes_on plan p (names.home (name p)) q (names.leads p is_p) (subst (λ n. Connected plan (names.home n) q) (sym e) to_q),
  one_name plan count name names p q,
)
