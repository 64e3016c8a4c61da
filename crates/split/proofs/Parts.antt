-- The part of an amount that falls to the first so many of a total, for every total.
use Rattle.std.proofs.Common.{◌≡◌, ℕ, ◌+◌, ◌*◌, ◌/◌, ◌%◌, ◌<◌, ◌≤◌, sym, ap, ◌∙◌, mul_assoc, mul_comm, add-mul, mul-le-mul_left, mul-div_cancel, arith}
use native.Mathlib.Nat.{div-add-mod, mul-add-div}
use Rattle.std.proofs.lemmas.Nat.{le-div}
use Rattle.split.specs.Shares.{part}

module _ (size total : ℕ) (some : 0 < total) where
  -- the amount may be divided first
  pub divided_first : (c : ℕ) → size / total * c + size % total * c / total ≡ part size total c
  divided_first c =
      let whole : total * (size / total * c) + size % total * c ≡ size * c =
      ap (λ n. n + size % total * c) (sym (mul_assoc total (size / total) c))
      ∙ sym (add-mul (total * (size / total)) (size % total) c)
      ∙ ap (λ n. n * c) (div-add-mod size total) in
      sym (mul-add-div some (size / total * c) (size % total * c)) ∙ ap (λ n. n / total) whole

  -- more of the total has no smaller part
  pub part_rises : (b c : ℕ) → b ≤ c → part size total b ≤ part size total c
  part_rises b c h =
      le-div (part size total b) (size * c) total some
      (omega (arith, div-add-mod (size * b) total, mul_comm total (part size total b), mul-le-mul_left size h))

  -- the whole amount falls to the whole total
  pub part_whole : part size total total ≡ size
  part_whole = mul-div_cancel size some

  -- and no more to a part of it
  pub part_within : (c : ℕ) → c ≤ total → part size total c ≤ size
  part_within c h = omega (arith, part_rises c total h, part_whole)
