-- Numbers that pass a test, numbered in their order without gaps.
use Rattle.std.proofs.Common.{◌≡◌, ℕ, zero, suc, ◌+◌, ◌-◌, ◌<◌, ◌≤◌, ◌⊎◌, inl, inr, Bool, true, false, cond, refl, ap, subst, arith}
use Rattle.std.proofs.lemmas.Bool.{cases_lt}

-- how many numbers below this one pass
pub rank : (ℕ → Bool) → ℕ → ℕ
rank is zero = 0
rank is (suc h) = rank is h + cond (is h) 1 0

module _ (is : ℕ → Bool) where
  pub rank_next : (h : ℕ) → is h ≡ true → rank is (suc h) ≡ rank is h + 1
  unfolding rank
  rank_next h e = rw e refl

  rank_step : (h : ℕ) → rank is h ≤ rank is (suc h)
  unfolding rank
  rank_step h = by (is h)
    where
      by : (b : Bool) → rank is h ≤ rank is h + cond b 1 0
      by true = omega arith
      by false = omega arith

  rank_more : (n h : ℕ) → rank is h ≤ rank is (h + n)
  rank_more zero h = let same : h + 0 ≡ h = omega arith in rw same (omega arith)
  rank_more (suc n) h =
      let same : h + suc n ≡ suc (h + n) = omega arith in
      let before = rank_more n h in
      let step = rank_step (h + n) in
      rw same (omega arith)

  pub rank_keeps : (h k : ℕ) → h ≤ k → rank is h ≤ rank is k
  rank_keeps h k le = let same : h + (k - h) ≡ k = omega arith in subst (λ m. rank is h ≤ rank is m) same (rank_more (k - h) h)

  -- what passes has another number than what comes before it
  pub rank_below : (h k : ℕ) → is h ≡ true → h < k → rank is h < rank is k
  rank_below h k e lt = let next = rank_next h e in let on = rank_keeps (suc h) k (omega arith) in omega arith

  pub rank_apart : (h k : ℕ) → is h ≡ true → is k ≡ true → rank is h ≡ rank is k → h ≡ k
  rank_apart h k e f same = by (cases_lt h k) (cases_lt k h)
    where
      by : (h < k) ⊎ (k ≤ h) → (k < h) ⊎ (h ≤ k) → h ≡ k
      by (inl lt) o = absurd (let z = rank_below h k e lt in omega arith)
      by (inr le) (inl lt) = absurd (let z = rank_below k h f lt in omega arith)
      by (inr le) (inr ge) = omega arith

  -- each number below that of the bound is one of what passes
  pub record Ranked (b n : ℕ) : Type 0 where
    pub value : ℕ
    pub below : value < b
    pub passes : is value ≡ true
    pub number : rank is value ≡ n

  pub ranked : (b n : ℕ) → n < rank is b → Ranked b n
  unfolding rank
  ranked zero n lt = absurd (omega arith)
  ranked (suc b) n lt =
      elim (cases_lt n (rank is b)) as (λ _. Ranked (suc b) n) [
        | inl less ↦
            let r = ranked b n less in
            record { value = r.value; below = (let z = r.below in omega arith); passes = r.passes; number = r.number }
        | inr more ↦ elim (is b) as (λ t. is b ≡ t → Ranked (suc b) n) [
          | true ↦ λ e.
              let high : rank is b + cond (is b) 1 0 ≡ rank is b + 1 = ap (λ (x : Bool). rank is b + cond x 1 0) e in
              record { value = b; below = omega arith; passes = e; number = omega arith }
          | false ↦ λ e.
              let high : rank is b + cond (is b) 1 0 ≡ rank is b + 0 = ap (λ (x : Bool). rank is b + cond x 1 0) e in
              absurd (omega arith)
        ] refl
      ]
