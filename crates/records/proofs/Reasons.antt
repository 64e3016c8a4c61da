-- What speaks against a record that has fields and whose fields are text.
use Rattle.std.proofs.Common.{◌≡◌, ℕ, ◌<◌, ◌≤◌, true, List, length, Some, None, arith}
use Rattle.std.proofs.lemmas.Bool.Decides.{nat_tests}
use Rattle.records.specs.Writing.{line, whole, all_text, unwritable}
use Rattle.records.specs.declared.writer.Unwritable.TheVariants.{NoRoom}

module _ (fields : List (List ℕ)) (room : ℕ) (some : 0 < length fields) (text : all_text fields ≡ true) where
  pub no_room : length fields ≤ 40 → length (line fields) ≤ 1024 → room < length (whole fields) → unwritable fields room ≡ Some NoRoom
  no_room few short small = grind (arith, nat_tests)

  pub writable : length fields ≤ 40 → length (line fields) ≤ 1024 → length (whole fields) ≤ room → unwritable fields room ≡ None
  writable few short fit = grind (arith, nat_tests)
