-- The shares of the rule are fair, by whatever total.
use Rattle.std.proofs.Common.{◌≡◌, ℕ, zero, suc, ◌+◌, ◌-◌, ◌*◌, ◌/◌, ◌<◌, ◌≤◌, List, [], ◌∷◌, length, get_or, ℤ, pos, negsuc, ◌+ℤ◌, ◌-ℤ◌, ◌*ℤ◌, neg_ℤ, nat_abs, sum, sym, refl, ap, ◌∙◌, subst, add-zero, add_assoc, mod-lt, mul_comm, mul-le-mul_left, mul-zero, zero-add, zero-mul, mul-add, arith}
use native.Mathlib.Nat.{div-add-mod, mul-sub, sub_self, zero-div}
use Rattle.std.proofs.lemmas.Int.{ints}
use Rattle.std.proofs.lemmas.List.Sums.{sum_by-cons}
use Rattle.measures.specs.Rounding.{with_sign_of}
use Rattle.split.specs.Fairness.{Close, NoneForNone, Whole, added}
use Rattle.split.specs.Shares.{part, share, shares_from, shares_of}
use Rattle.split.proofs.Parts.{part_rises, part_whole}

-- a number is its size with its sign
sign_size : (z : ℤ) → with_sign_of z (nat_abs z) ≡ z
sign_size (pos n) = refl
sign_size (negsuc n) = refl

sign_zero : (z : ℤ) → with_sign_of z 0 ≡ pos 0
sign_zero (pos n) = refl
sign_zero (negsuc n) = refl

sign_add : (z : ℤ) (m n : ℕ) → with_sign_of z m +ℤ with_sign_of z n ≡ with_sign_of z (m + n)
sign_add (pos k) m n = refl
sign_add (negsuc k) m n = omega (arith, ints)

sign_times : (z : ℤ) (m n : ℕ) → with_sign_of z m *ℤ pos n ≡ with_sign_of z (m * n)
sign_times (pos k) m n = refl
sign_times (negsuc k) zero n = ap pos (zero-mul n) ∙ ap (λ x. neg_ℤ (pos x)) (sym (zero-mul n))
sign_times (negsuc k) (suc m) n = refl

-- numbers of one sign are as far apart as their sizes
sign_apart : (z : ℤ) (m n t : ℕ) → m < n + t → n < m + t → nat_abs (with_sign_of z m -ℤ with_sign_of z n) < t
sign_apart (pos _) m n t h k = omega (arith, ints)
sign_apart (negsuc _) m n t h k = omega (arith, ints)

-- the size of a share, times the total, is less than the total from the size of the amount, times the weight
size_close : (size total : ℕ) → 0 < total → (before w : ℕ) →
    let cents = part size total (before + w) - part size total before in (cents * total < size * w + total) × (size * w < cents * total + total)
size_close size total some before w =
    let low = part size total before in
    let high = part size total (before + w) in
    let rises : low ≤ high = part_rises size total some before (before + w) (omega arith) in
    let times : (high - low) * total + total * low ≡ total * high =
    omega (arith, mul_comm (high - low) total, mul-sub total high low, mul-le-mul_left total rises) in
    let below = div-add-mod (size * before) total in
    let above = div-add-mod (size * (before + w)) total in
    let little = mod-lt (size * before) some in
    let less = mod-lt (size * (before + w)) some in
    let both = mul-add size before w in
    (omega (arith, times, below, above, little, less, both), omega (arith, times, below, above, little, less, both))

module _ (amount : ℤ) (total : ℕ) (some : 0 < total) where
  -- the shares from one total of weights to another add up to the share between the two
  added_from : (before : ℕ) (ws : List ℕ) → added (shares_from amount total before ws) ≡ share amount total before (before + sum ws)
  added_from before [] = sym (ap (with_sign_of amount) (ap (λ c. part (nat_abs amount) total c - part (nat_abs amount) total before) (add-zero before) ∙ sub_self (part (nat_abs amount) total before)) ∙ sign_zero amount)
  added_from before (w ∷ ws) =
      let size = nat_abs amount in
      let at = λ (c : ℕ). part size total c in
      let next = before + w in
      let end = next + sum ws in
      let first = part_rises size total some before next (omega arith) in
      let then = part_rises size total some next end (omega arith) in
      let last : before + sum (w ∷ ws) ≡ end = ap (λ n. before + n) (sum_by-cons (λ x. x) w ws) ∙ sym (add_assoc before w (sum ws)) in
      ap (λ (z : ℤ). share amount total before next +ℤ z) (added_from next ws)
      ∙ sign_add amount (at next - at before) (at end - at next)
      ∙ ap (with_sign_of amount) (omega arith)
      ∙ ap (share amount total before) (sym last)

  -- what holds of the share of every weight holds of each share
  each_share : (P : ℤ → ℕ → Type 0) → ((before w : ℕ) → P (share amount total before (before + w)) w) → (before : ℕ) (ws : List ℕ) (k : ℕ) → k < length ws → P (get_or (shares_from amount total before ws) k (pos 0)) (get_or ws k 0)
  each_share P holds before [] k h = absurd (omega arith)
  each_share P holds before (w ∷ ws) zero h = holds before w
  each_share P holds before (w ∷ ws) (suc k) h = each_share P holds (before + w) ws k (omega arith)

  share_close : (before w : ℕ) → nat_abs (share amount total before (before + w) *ℤ pos total -ℤ amount *ℤ pos w) < total
  share_close before w =
      let size = nat_abs amount in
      let cents = part size total (before + w) - part size total before in
      let near = size_close size total some before w in
      let exact : amount *ℤ pos w ≡ with_sign_of amount (size * w) =
      ap (λ (z : ℤ). z *ℤ pos w) (sym (sign_size amount)) ∙ sign_times amount size w in
      subst (λ (z : ℤ). nat_abs (z -ℤ amount *ℤ pos w) < total) (sym (sign_times amount cents total))
      (subst (λ (z : ℤ). nat_abs (with_sign_of amount (cents * total) -ℤ z) < total) (sym exact) (sign_apart amount (cents * total) (size * w) total near.0 near.1))

  share_of_none : (before w : ℕ) → w ≡ 0 → share amount total before (before + w) ≡ pos 0
  share_of_none before w h =
      ap (λ n. share amount total before (before + n)) h ∙ sym (added_from before [])

-- the shares of the rule are fair
module _ (amount : ℤ) (weights : List ℕ) (some : 0 < sum weights) where
  pub whole : Whole amount (shares_of amount weights)
  whole =
      let total = sum weights in
      let size = nat_abs amount in
      added_from amount total some 0 weights
      ∙ ap (with_sign_of amount) (omega (arith, ap (part size total) (zero-add total) ∙ part_whole size total some, ap (λ n. n / total) (mul-zero size) ∙ zero-div total))
      ∙ sign_size amount

  pub close : Close amount weights (shares_of amount weights)
  close =
      each_share amount (sum weights) some (λ s w. nat_abs (s *ℤ pos (sum weights) -ℤ amount *ℤ pos w) < sum weights) (share_close amount (sum weights) some) 0 weights

  pub none_for_none : NoneForNone weights (shares_of amount weights)
  none_for_none = each_share amount (sum weights) some (λ s w. w ≡ 0 → s ≡ pos 0) (share_of_none amount (sum weights) some) 0 weights
