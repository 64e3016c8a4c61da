-- What a byte added or a field completed does to the fields that lie in memory.
use Rattle.std.proofs.Common.{◌≡◌, ℕ, zero, suc, ◌+◌, ◌<◌, ◌≤◌, List, [], ◌∷◌, ◌++◌, length, get_or, drop, Some, None, sym, refl, ap, ◌∙◌, subst, ⊎_elim, add-one, arith}
use Rattle.std.specs.List.{between, slice_get}
use Rattle.std.proofs.lemmas.List.{length_push, take-append-le, get_or_append_left, get_or_push}
use Rattle.std.proofs.lemmas.Option.{slice_get-get_or, slice_get_past}
use Rattle.std.proofs.lemmas.Bool.{cases_lt}
use Rattle.std.proofs.lemmas.Slice.{between_is, between_to_end}
use Rattle.records.specs.Laid.{start_of, Ordered, Inside, first_fields}

pub length_first_fields : (bytes ends : List ℕ) (k : ℕ) → length (first_fields bytes ends k) ≡ k
length_first_fields bytes ends zero = refl
length_first_fields bytes ends (suc k) = length_push (first_fields bytes ends k) _ ∙ add-one (length (first_fields bytes ends k)) ∙ ap suc (length_first_fields bytes ends k)

-- a part lies where it did when more comes behind it
between_append_left : (bytes more : List ℕ) (i j : ℕ) → j ≤ length bytes → between i j (bytes ++ more) ≡ between i j bytes
between_append_left bytes more i j h = between_is (bytes ++ more) i j ∙ ap (drop i) (take-append-le j bytes more h) ∙ sym (between_is bytes i j)

-- a byte added behind every field leaves the complete ones
pub first_fields_add : (bytes ends : List ℕ) (b k : ℕ) → ((j : ℕ) → j ≤ k → start_of ends j ≤ length bytes) → first_fields (bytes ++ (b ∷ [])) ends k ≡ first_fields bytes ends k
first_fields_add bytes ends b zero h = refl
first_fields_add bytes ends b (suc k) h =
    ap (λ x. x ++ (between (start_of ends k) (get_or ends k 0) (bytes ++ (b ∷ [])) ∷ [])) (first_fields_add bytes ends b k (λ j l. h j (omega arith)))
    ∙ ap (λ x. first_fields bytes ends k ++ (x ∷ [])) (between_append_left bytes (b ∷ []) (start_of ends k) (get_or ends k 0) (h (suc k) (omega arith)))

-- an end that is noted leaves the starts before it, and is the next one
start_of_noted : (ends : List ℕ) (e k : ℕ) → k ≤ length ends → start_of (ends ++ (e ∷ [])) k ≡ start_of ends k
start_of_noted ends e zero h = refl
start_of_noted ends e (suc k) h = get_or_append_left ends (e ∷ []) 0 k h

start_of_next : (ends : List ℕ) (e : ℕ) → start_of (ends ++ (e ∷ [])) (length (ends ++ (e ∷ []))) ≡ e
start_of_next ends e = ap (start_of (ends ++ (e ∷ []))) (length_push ends e ∙ add-one (length ends)) ∙ get_or_push ends e 0 (length ends) refl

-- noting where a field ends leaves the fields before it
first_fields_noted : (bytes ends : List ℕ) (e k : ℕ) → k ≤ length ends → first_fields bytes (ends ++ (e ∷ [])) k ≡ first_fields bytes ends k
first_fields_noted bytes ends e zero h = refl
first_fields_noted bytes ends e (suc k) h =
    let noted = ends ++ (e ∷ []) in
    ap (λ x. x ++ (between (start_of noted k) (get_or noted k 0) bytes ∷ [])) (first_fields_noted bytes ends e k (omega arith))
    ∙ ap (λ s. first_fields bytes ends k ++ (between s (get_or noted k 0) bytes ∷ [])) (start_of_noted ends e k (omega arith))
    ∙ ap (λ t. first_fields bytes ends k ++ (between (start_of ends k) t bytes ∷ [])) (get_or_append_left ends (e ∷ []) 0 k h)

pub first_fields_separate : (bytes ends : List ℕ) → first_fields bytes (ends ++ (length bytes ∷ [])) (length (ends ++ (length bytes ∷ []))) ≡ first_fields bytes ends (length ends) ++ (drop (start_of ends (length ends)) bytes ∷ [])
first_fields_separate bytes ends =
    let n = length ends in
    let e = length bytes in
    let noted = ends ++ (e ∷ []) in
    ap (first_fields bytes noted) (length_push ends e ∙ add-one n)
    ∙ ap (λ x. x ++ (between (start_of noted n) (get_or noted n 0) bytes ∷ [])) (first_fields_noted bytes ends e n (omega arith))
    ∙ ap (λ s. first_fields bytes ends n ++ (between s (get_or noted n 0) bytes ∷ [])) (start_of_noted ends e n (omega arith))
    ∙ ap (λ t. first_fields bytes ends n ++ (between (start_of ends n) t bytes ∷ [])) (get_or_push ends e 0 n refl)
    ∙ ap (λ x. first_fields bytes ends n ++ (x ∷ [])) (between_to_end bytes (start_of ends n) e (omega arith))

pub get_or_first_fields : (bytes ends : List ℕ) (n k : ℕ) → k < n → get_or (first_fields bytes ends n) k [] ≡ between (start_of ends k) (get_or ends k 0) bytes
get_or_first_fields bytes ends zero k h = absurd (omega arith)
get_or_first_fields bytes ends (suc n) k h =
    let count = length_first_fields bytes ends n in
    let last = between (start_of ends n) (get_or ends n 0) bytes in
    ⊎_elim
    (λ l. get_or_append_left (first_fields bytes ends n) (last ∷ []) [] k (omega (arith, count)) ∙ get_or_first_fields bytes ends n k l)
    (λ l. let same : n ≡ k = omega arith in
    get_or_push (first_fields bytes ends n) last [] k (count ∙ same) ∙ ap (λ j. between (start_of ends j) (get_or ends j 0) bytes) same)
    (cases_lt k n)

-- where every field starts and ends once one more is complete
pub ordered_separate : (ends : List ℕ) (len : ℕ) → Ordered ends → Inside ends len → Ordered (ends ++ (len ∷ []))
ordered_separate ends len ordered inside k h =
    ⊎_elim
    (λ below. omega (arith, start_of_noted ends len k (omega arith), get_or_append_left ends (len ∷ []) 0 k below, ordered k below))
    (λ here. let same : length ends ≡ k = omega (arith, length_push ends len) in
    omega (arith, start_of_noted ends len k (omega arith), get_or_push ends len 0 k same, inside k (omega arith)))
    (cases_lt k (length ends))

pub inside_separate : (ends : List ℕ) (len : ℕ) → Inside ends len → Inside (ends ++ (len ∷ [])) len
inside_separate ends len inside k h =
    ⊎_elim
    (λ below. omega (arith, start_of_noted ends len k (omega arith), inside k (omega arith)))
    (λ here. let same : length (ends ++ (len ∷ [])) ≡ k = omega (arith, length_push ends len) in
    subst (λ j. start_of (ends ++ (len ∷ [])) j ≤ len) same (omega (arith, start_of_next ends len)))
    (cases_lt k (length ends + 1))

pub nth_complete : (bytes ends : List ℕ) (n k : ℕ) (last : List ℕ) → k < n → slice_get (first_fields bytes ends n ++ (last ∷ [])) k ≡ Some (between (start_of ends k) (get_or ends k 0) bytes)
nth_complete bytes ends n k last h =
    let count = length_first_fields bytes ends n in
    slice_get-get_or (first_fields bytes ends n ++ (last ∷ [])) k [] (omega (arith, count, length_push (first_fields bytes ends n) last))
    ∙ ap Some (get_or_append_left (first_fields bytes ends n) (last ∷ []) [] k (omega (arith, count)) ∙ get_or_first_fields bytes ends n k h)

pub nth_last : (bytes ends : List ℕ) (n : ℕ) (last : List ℕ) → slice_get (first_fields bytes ends n ++ (last ∷ [])) n ≡ Some last
nth_last bytes ends n last =
    let count = length_first_fields bytes ends n in
    slice_get-get_or (first_fields bytes ends n ++ (last ∷ [])) n [] (omega (arith, count, length_push (first_fields bytes ends n) last))
    ∙ ap Some (get_or_push (first_fields bytes ends n) last [] n count)

pub nth_beyond : (bytes ends : List ℕ) (n k : ℕ) (last : List ℕ) → n < k → slice_get (first_fields bytes ends n ++ (last ∷ [])) k ≡ None
nth_beyond bytes ends n k last h =
    slice_get_past (first_fields bytes ends n ++ (last ∷ [])) k (omega (arith, length_first_fields bytes ends n, length_push (first_fields bytes ends n) last))
