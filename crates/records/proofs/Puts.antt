-- Bytes that are written into a buffer, one part after another.
use Rattle.std.proofs.Common.{◌≡◌, ℕ, ◌+◌, ◌-◌, ◌≤◌, List, ◌++◌, take, drop, sym, ap, ◌∙◌, arith}
use Rattle.std.proofs.lemmas.List.{append_assoc, drop-drop, length-append}
use Rattle.records.specs.Buffers.{Put}

-- what is as it was from a place on is so from a later one on
pub drop_further : (xs ys : List ℕ) (n m : ℕ) → drop n xs ≡ drop n ys → n ≤ m → drop m xs ≡ drop m ys
drop_further xs ys n m same later =
    let split : n + (m - n) ≡ m = omega arith in
    ap (λ k. drop k xs) (sym split) ∙ sym (drop-drop (m - n) n xs) ∙ ap (drop (m - n)) same ∙ drop-drop (m - n) n ys ∙ ap (λ k. drop k ys) split

-- bytes that are written behind others
pub put_then : (before middle after : List ℕ) (place next end : ℕ) (bytes more : List ℕ) → Put before place bytes next middle → Put middle next more end after → Put before place (bytes ++ more) end after
put_then before middle after place next end bytes more first second =
    let long = length-append bytes more in
    (omega arith, second.1 ∙ ap (λ l. l ++ more) first.1 ∙ append_assoc (take place before) bytes more, second.2 ∙ drop_further middle before next end first.2 (omega arith), second.3 ∙ first.3)
