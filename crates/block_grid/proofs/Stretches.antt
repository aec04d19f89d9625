-- How often one straight stretch crosses the four borders of a place.
use Rattle.std.proofs.Common.{◌≡◌, ◌≢◌, ℕ, ◌+◌, ◌-◌, ◌<◌, ◌≤◌, Bool, true, false, nat_eq, ◌==◌, ◌||◌, min, max, refl, sym, ◌∙◌, arith}
use Rattle.std.proofs.lemmas.Bool.{eqb-true, eqb-false}
use Rattle.block_grid.specs.Lines.{BlockPlace, row_of, col_of, stretch_crossings, IsOnStretch}
use Rattle.block_grid.proofs.Bits.{bit, BitFacts, bit_facts, along_on, along_off, along_same}

abbrev pub north_by : BlockPlace → BlockPlace → ℕ → ℕ → ℕ
north_by p q r c = stretch_crossings row_of col_of p q r c

abbrev pub west_by : BlockPlace → BlockPlace → ℕ → ℕ → ℕ
west_by p q r c = stretch_crossings col_of row_of p q c r

abbrev pub sides_by : BlockPlace → BlockPlace → ℕ → ℕ → ℕ
sides_by p q r c = north_by p q r c + north_by p q (r + 1) c + west_by p q r c + west_by p q r (c + 1)

-- the place is this one
abbrev pub IsAt : BlockPlace → ℕ → ℕ → Type 0
IsAt p r c = (r ≡ row_of p) × (c ≡ col_of p)

pub record StretchFacts (p q : BlockPlace) (r c : ℕ) : Type 0 where
  pub north : north_by p q r c ≤ 1
  pub south : north_by p q (r + 1) c ≤ 1
  pub west : west_by p q r c ≤ 1
  pub east : west_by p q r (c + 1) ≤ 1
  pub first : IsAt p r c → sides_by p q r c ≡ 1
  pub last : IsAt q r c → sides_by p q r c ≡ 1
  pub inner : (IsAt p r c → ⊥) → (IsAt q r c → ⊥) → 0 < sides_by p q r c → sides_by p q r c ≡ 2
  pub upright : col_of p ≡ col_of q → west_by p q r c + west_by p q r (c + 1) ≡ 0
  pub level : row_of p ≡ row_of q → north_by p q r c + north_by p q (r + 1) c ≡ 0
  pub goes_north : 0 < north_by p q r c → IsOnStretch p q r c × (1 ≤ r) × IsOnStretch p q (r - 1) c
  pub goes_south : 0 < north_by p q (r + 1) c → IsOnStretch p q r c × IsOnStretch p q (r + 1) c
  pub goes_west : 0 < west_by p q r c → IsOnStretch p q r c × (1 ≤ c) × IsOnStretch p q r (c - 1)
  pub goes_east : 0 < west_by p q r (c + 1) → IsOnStretch p q r c × IsOnStretch p q r (c + 1)

upright_facts : (p q : BlockPlace) (r c : ℕ) → col_of p ≡ col_of q → row_of p ≢ row_of q → StretchFacts p q r c
upright_facts p q r c same ne =
    let bits : BitFacts (row_of p) (row_of q) r = bit_facts (row_of p) (row_of q) r ne in
    let w : west_by p q r c ≡ 0 = along_same col_of row_of p q c r same in
    let e : west_by p q r (c + 1) ≡ 0 = along_same col_of row_of p q (c + 1) r same in
    let low : bit (row_of p) (row_of q) r ≤ 1 = bits.low in
    let high : bit (row_of p) (row_of q) (r + 1) ≤ 1 = bits.high in
    elim (nat_eq (col_of p) c) as (λ b. nat_eq (col_of p) c ≡ b → StretchFacts p q r c) [
      | true ↦ λ is.
          let on : col_of p ≡ c = eqb-true (col_of p) c is in
          let on' : col_of q ≡ c = sym same ∙ on in
          let n : north_by p q r c ≡ bit (row_of p) (row_of q) r = along_on row_of col_of p q r c on on' in
          let s : north_by p q (r + 1) c ≡ bit (row_of p) (row_of q) (r + 1) = along_on row_of col_of p q (r + 1) c on on' in
          record {
            north = omega arith;
            south = omega arith;
            west = omega arith;
            east = omega arith;
            first = λ h. let k : bit (row_of p) (row_of q) r + bit (row_of p) (row_of q) (r + 1) ≡ 1 = bits.at_first h.0 in omega arith;
            last = λ h. let k : bit (row_of p) (row_of q) r + bit (row_of p) (row_of q) (r + 1) ≡ 1 = bits.at_last h.0 in omega arith;
            inner = λ h k l. let m : bit (row_of p) (row_of q) r + bit (row_of p) (row_of q) (r + 1) ≡ 2 = bits.between (λ x. h (
              x,
              sym on,
            )) (λ x. k (x, sym on')) (omega arith) in omega arith;
            upright = λ h. omega arith;
            level = λ h. absurd (ne h);
            goes_north = λ h. let k : (min (row_of p) (row_of q) < r) × (r ≤ max (row_of p) (row_of q)) = bits.before (omega arith) in
                ((omega arith, omega arith, omega arith, omega arith), omega arith, (omega arith, omega arith, omega arith, omega arith));
            goes_south = λ h. let k : (min (row_of p) (row_of q) ≤ r) × (r + 1 ≤ max (row_of p) (row_of q)) = bits.behind (omega arith) in
                ((omega arith, omega arith, omega arith, omega arith), (omega arith, omega arith, omega arith, omega arith));
            goes_west = λ h. absurd (omega arith);
            goes_east = λ h. absurd (omega arith);
          }
      | false ↦ λ is.
          let off : col_of p ≢ c = eqb-false (col_of p) c is in
          let n : north_by p q r c ≡ 0 = along_off row_of col_of p q r c off in
          let s : north_by p q (r + 1) c ≡ 0 = along_off row_of col_of p q (r + 1) c off in
          record {
            north = omega arith;
            south = omega arith;
            west = omega arith;
            east = omega arith;
            first = λ h. absurd (off (sym h.1));
            last = λ h. absurd (off (same ∙ sym h.1));
            inner = λ h k l. absurd (omega arith);
            upright = λ h. omega arith;
            level = λ h. absurd (ne h);
            goes_north = λ h. absurd (omega arith);
            goes_south = λ h. absurd (omega arith);
            goes_west = λ h. absurd (omega arith);
            goes_east = λ h. absurd (omega arith);
          }
    ] refl

level_facts : (p q : BlockPlace) (r c : ℕ) → row_of p ≡ row_of q → col_of p ≢ col_of q → StretchFacts p q r c
level_facts p q r c same ne =
    let bits : BitFacts (col_of p) (col_of q) c = bit_facts (col_of p) (col_of q) c ne in
    let n : north_by p q r c ≡ 0 = along_same row_of col_of p q r c same in
    let s : north_by p q (r + 1) c ≡ 0 = along_same row_of col_of p q (r + 1) c same in
    let low : bit (col_of p) (col_of q) c ≤ 1 = bits.low in
    let high : bit (col_of p) (col_of q) (c + 1) ≤ 1 = bits.high in
    elim (nat_eq (row_of p) r) as (λ b. nat_eq (row_of p) r ≡ b → StretchFacts p q r c) [
      | true ↦ λ is.
          let on : row_of p ≡ r = eqb-true (row_of p) r is in
          let on' : row_of q ≡ r = sym same ∙ on in
          let w : west_by p q r c ≡ bit (col_of p) (col_of q) c = along_on col_of row_of p q c r on on' in
          let e : west_by p q r (c + 1) ≡ bit (col_of p) (col_of q) (c + 1) = along_on col_of row_of p q (c + 1) r on on' in
          record {
            north = omega arith;
            south = omega arith;
            west = omega arith;
            east = omega arith;
            first = λ h. let k : bit (col_of p) (col_of q) c + bit (col_of p) (col_of q) (c + 1) ≡ 1 = bits.at_first h.1 in omega arith;
            last = λ h. let k : bit (col_of p) (col_of q) c + bit (col_of p) (col_of q) (c + 1) ≡ 1 = bits.at_last h.1 in omega arith;
            inner = λ h k l. let m : bit (col_of p) (col_of q) c + bit (col_of p) (col_of q) (c + 1) ≡ 2 = bits.between (λ x. h (
              sym on,
              x,
            )) (λ x. k (sym on', x)) (omega arith) in omega arith;
            upright = λ h. absurd (ne h);
            level = λ h. omega arith;
            goes_north = λ h. absurd (omega arith);
            goes_south = λ h. absurd (omega arith);
            goes_west = λ h. let k : (min (col_of p) (col_of q) < c) × (c ≤ max (col_of p) (col_of q)) = bits.before (omega arith) in
                ((omega arith, omega arith, omega arith, omega arith), omega arith, (omega arith, omega arith, omega arith, omega arith));
            goes_east = λ h. let k : (min (col_of p) (col_of q) ≤ c) × (c + 1 ≤ max (col_of p) (col_of q)) = bits.behind (omega arith) in
                ((omega arith, omega arith, omega arith, omega arith), (omega arith, omega arith, omega arith, omega arith));
          }
      | false ↦ λ is.
          let off : row_of p ≢ r = eqb-false (row_of p) r is in
          let w : west_by p q r c ≡ 0 = along_off col_of row_of p q c r off in
          let e : west_by p q r (c + 1) ≡ 0 = along_off col_of row_of p q (c + 1) r off in
          record {
            north = omega arith;
            south = omega arith;
            west = omega arith;
            east = omega arith;
            first = λ h. absurd (off (sym h.0));
            last = λ h. absurd (off (same ∙ sym h.0));
            inner = λ h k l. absurd (omega arith);
            upright = λ h. absurd (ne h);
            level = λ h. omega arith;
            goes_north = λ h. absurd (omega arith);
            goes_south = λ h. absurd (omega arith);
            goes_west = λ h. absurd (omega arith);
            goes_east = λ h. absurd (omega arith);
          }
    ] refl

-- a straight stretch to another place
pub stretch_facts : (p q : BlockPlace) (r c : ℕ) → (row_of p == row_of q || col_of p == col_of q) ≡ true → (row_of p ≡ row_of q →
    col_of p ≢ col_of q) → StretchFacts p q r c
stretch_facts p q r c straight ne =
    elim (nat_eq (row_of p) (row_of q)) as (λ b. nat_eq (row_of p) (row_of q) ≡ b → StretchFacts p q r c) [
      | true ↦ λ is. let same : row_of p ≡ row_of q = eqb-true _ _ is in level_facts p q r c same (ne same)
      | false ↦ λ is. let other : row_of p ≢ row_of q = eqb-false _ _ is in
          upright_facts p q r c (eqb-true _ _ (second (nat_eq (row_of p) (row_of q)) (nat_eq (col_of p) (col_of q)) is straight)) other
    ] refl
  where
    second : (a b : Bool) → a ≡ false → (a || b) ≡ true → b ≡ true
    second true b h k = cc
    second false b h k = k
