-- A record under way: how it runs, how it may go on, and how each action of a byte leads to the next one.
use Rattle.std.proofs.Common.{◌≡◌, ℕ, ◌+◌, ◌≤◌, min, ◌⊎◌, List, [], ◌∷◌, ◌++◌, length, sym, refl, ap, ◌∙◌, subst, inl, inr, arith}
use Rattle.std.proofs.lemmas.List.{append_assoc, length-append, length_push}
use Rattle.records.specs.Grammar.{doubled, in_quotes, Field, plain, quoted, Fields, one, more, Begins}
use Rattle.records.specs.Reading.{Separated, start, next, Part, of_line_end, UnderWay}
use Rattle.records.specs.declared.action.Mode.{Mode}
use Rattle.records.specs.declared.action.Mode.TheVariants.{Plain, Quoted, Closing, Returned}
use Rattle.records.proofs.Machine.{run, run_plain, run_doubled, run_in_quotes, run_comma, run_return}

-- how the run gets here

run_separated : {fs : List (List ℕ)} {before : List ℕ} → Separated fs before → (rest : List ℕ) → run Plain [] [] 0 (before ++ rest) ≡ run Plain fs [] (length before) rest
run_separated start rest = refl
run_separated (next {fields} {before} {field} {written} s f) rest =
    ap (run Plain [] [] 0) (append_assoc before (written ++ (44 ∷ [])) rest ∙ ap (λ x. before ++ x) (append_assoc written (44 ∷ []) rest))
    ∙ run_separated s (written ++ (44 ∷ rest))
    ∙ run_comma fields (length before) rest f
    ∙ ap (λ k. run Plain (fields ++ (field ∷ [])) [] k rest)
    (let e : length before + length written + 1 ≡ length (before ++ (written ++ (44 ∷ []))) = omega (arith, length-append before (written ++ (44 ∷ [])), length_push written 44) in e)

run_part : (mode : Mode) (fs : List (List ℕ)) (v part : List ℕ) (n k : ℕ) (rest : List ℕ) → Part mode v part → n + length part ≡ k + of_line_end mode
    → run Plain fs [] n (part ++ rest) ≡ run mode fs v k rest
run_part Plain fs v part n k rest (h, e) c =
    ap (λ x. run Plain fs [] n (x ++ rest)) e ∙ run_plain fs [] v n rest h
    ∙ ap (λ j. run Plain fs v j rest) (let z : n + length v ≡ k = omega (arith, ap length e) in z)
run_part Quoted fs v part n k rest (h, e) c =
    ap (λ x. run Plain fs [] n (x ++ rest)) e ∙ run_doubled fs [] v (n + 1) rest h
    ∙ ap (λ j. run Quoted fs v j rest) (let z : n + 1 + length (doubled v) ≡ k = omega (arith, ap length e) in z)
run_part Closing fs v part n k rest (h, e) c =
    ap (λ x. run Plain fs [] n (x ++ rest)) e ∙ run_in_quotes fs v n rest h
    ∙ ap (λ j. run Closing fs v j rest) (let z : n + length (in_quotes v) ≡ k = omega (arith, ap length e) in z)
run_part Returned fs v part n k rest (written, f, e) c =
    ap (λ x. run Plain fs [] n (x ++ rest)) e ∙ ap (run Plain fs [] n) (append_assoc written (13 ∷ []) rest)
    ∙ run_return fs n rest f
    ∙ ap (λ j. run Returned fs v j rest) (let z : n + length written ≡ k = omega (arith, ap length e, length_push written 13) in z)

pub run_under_way : (mode : Mode) (fs : List (List ℕ)) (v : List ℕ) (n : ℕ) (p : List ℕ) → UnderWay mode fs v n p → (rest : List ℕ)
    → run Plain [] [] 0 (p ++ rest) ≡ run mode fs v n rest
run_under_way mode fs v n p u rest =
    ap (λ x. run Plain [] [] 0 (x ++ rest)) u.joined
    ∙ ap (run Plain [] [] 0) (append_assoc u.before u.part rest)
    ∙ run_separated u.separated (u.part ++ rest)
    ∙ run_part mode fs v u.part (length u.before) n rest u.partly
    (omega (arith, u.counted, ap length u.joined, length-append u.before u.part))

-- how it may go on

pub fields_joined : {fs : List (List ℕ)} {before : List ℕ} {fields : List (List ℕ)} {written : List ℕ} → Separated fs before → Fields fields written → Fields (fs ++ fields) (before ++ written)
fields_joined start g = g
fields_joined {fields = others} {written = w} (next {fields} {before} {field} {written} s f) g =
    let longer : Fields (fields ++ (field ∷ others)) (before ++ (written ++ (44 ∷ w))) = fields_joined s (more f g) in
    let names : (fields ++ (field ∷ [])) ++ others ≡ fields ++ (field ∷ others) = append_assoc fields (field ∷ []) others in
    let bytes : (before ++ (written ++ (44 ∷ []))) ++ w ≡ before ++ (written ++ (44 ∷ w)) =
    append_assoc before (written ++ (44 ∷ [])) w ∙ ap (λ x. before ++ x) (append_assoc written (44 ∷ []) w) in
    subst (λ x. Fields x ((before ++ (written ++ (44 ∷ []))) ++ w)) (sym names) (subst (λ y. Fields (fields ++ (field ∷ others)) y) (sym bytes) longer)

pub last_field : {fs : List (List ℕ)} {before v written : List ℕ} → Separated fs before → Field v written → Fields (fs ++ (v ∷ [])) (before ++ written)
last_field s f = fields_joined s (one f)

-- where a field may be over, what was taken in of it is a way to write it
pub written_part : (mode : Mode) (v part : List ℕ) → (mode ≡ Plain) ⊎ (mode ≡ Closing) → Part mode v part → Field v part
written_part Plain v part m (h, e) = subst (Field v) (sym e) (plain h)
written_part Closing v part m (h, e) = subst (Field v) (sym e) (quoted h)
written_part Quoted v part m (h, e) = absurd (grind arith)
written_part Returned v part m p = absurd (grind arith)

-- nothing of the line end is taken in there
pub level_over : (m : Mode) → (m ≡ Plain) ⊎ (m ≡ Closing) → of_line_end m ≡ 0
level_over m (inl e) = ap of_line_end e
level_over m (inr e) = ap of_line_end e

-- and what was taken in of the record is a way to write its fields
pub fields_under_way : (mode : Mode) (fs : List (List ℕ)) (v : List ℕ) (n : ℕ) (p : List ℕ) → (mode ≡ Plain) ⊎ (mode ≡ Closing) → UnderWay mode fs v n p → Fields (fs ++ (v ∷ [])) p
fields_under_way mode fs v n p m u = subst (Fields (fs ++ (v ∷ []))) (sym u.joined) (last_field u.separated (written_part mode v u.part m u.partly))

-- a record begun is the beginning of one
abbrev pub Begun : List (List ℕ) → List ℕ → ℕ → List ℕ → Type 0
Begun fs v n p = (b : Begins p) × (b.fields ≡ fs ++ (v ∷ [])) × (min (length p) (length b.written) ≤ n)

begun_field : (mode : Mode) (fs : List (List ℕ)) (v : List ℕ) (n : ℕ) (p : List ℕ) → (mode ≡ Plain) ⊎ (mode ≡ Closing) → UnderWay mode fs v n p → Begun fs v n p
begun_field mode fs v n p m u = (
  record { fields = fs ++ (v ∷ []); written = p; to_come = 13 ∷ (10 ∷ []); spelled = fields_under_way mode fs v n p m u; joined = refl },
  refl,
  omega (arith, u.counted, level_over mode m),
)

pub begins_under_way : (mode : Mode) (fs : List (List ℕ)) (v : List ℕ) (n : ℕ) (p : List ℕ) → UnderWay mode fs v n p → Begun fs v n p
begins_under_way Plain fs v n p u = begun_field Plain fs v n p (inl refl) u
begins_under_way Closing fs v n p u = begun_field Closing fs v n p (inr refl) u
begins_under_way Quoted fs v n p u = (
  record {
    fields = fs ++ (v ∷ []);
    written = p ++ (34 ∷ []);
    to_come = 34 ∷ (13 ∷ (10 ∷ []));
    spelled = subst (Fields (fs ++ (v ∷ [])))
        (ap (λ x. u.before ++ x) (ap (λ x. x ++ (34 ∷ [])) (sym u.partly.1)) ∙ sym (append_assoc u.before u.part (34 ∷ [])) ∙ ap (λ x. x ++ (34 ∷ [])) (sym u.joined))
        (last_field u.separated (quoted u.partly.0));
    joined = sym (append_assoc p (34 ∷ []) (13 ∷ (10 ∷ [])));
  },
  refl,
  omega (arith, u.counted),
)
begins_under_way Returned fs v n p u =
    let w = u.partly.0 in
    let bytes : p ≡ (u.before ++ w) ++ (13 ∷ []) = u.joined ∙ ap (λ x. u.before ++ x) u.partly.2 ∙ sym (append_assoc u.before w (13 ∷ [])) in (
      record {
        fields = fs ++ (v ∷ []);
        written = u.before ++ w;
        to_come = 10 ∷ [];
        spelled = last_field u.separated u.partly.1;
        joined = ap (λ x. x ++ (10 ∷ [])) bytes ∙ append_assoc (u.before ++ w) (13 ∷ []) (10 ∷ []);
      },
      refl,
      omega (arith, u.counted, ap length bytes, length_push (u.before ++ w) 13),
    )
