-- The reader as a machine over lists, without limits, and that it reads what the grammar writes.
use Rattle.std.proofs.Common.{◌≡◌, ℕ, suc, ◌+◌, ◌<◌, ◌≤◌, Bool, true, false, eqb, List, [], ◌∷◌, ◌++◌, length, sym, refl, ap, ◌∙◌, arith}
use Rattle.std.proofs.lemmas.List.{append_assoc, append-nil, length-append, length_push}
use Rattle.std.proofs.lemmas.Bool.{and_parts, cond_both, eqb-true}
use Rattle.std.proofs.lemmas.Bool.Decides.{nat_tests}
use Rattle.std.specs.List.{list_all}
use Rattle.records.specs.Actions.{action_of}
use Rattle.records.specs.FieldLists.{is_empty}
use Rattle.records.specs.Grammar.{plain_byte, text_byte, doubled, in_quotes, Field, plain, quoted, Fields, one, more}
use Rattle.records.specs.declared.action.Mode.{Mode}
use Rattle.records.specs.declared.action.Mode.TheVariants.{Plain, Quoted, Closing, Returned}
use Rattle.records.specs.declared.action.Action.{Action}
use Rattle.records.specs.declared.action.Action.TheVariants.{Keep, OpenQuotes, CloseQuotes, Separate, Return, End, Refuse}

-- where a run comes to: still in a record, with its complete fields, the last one so far and the bytes counted; at its end; or nowhere
pub data Outcome : Type 0 where
  going : Mode → List (List ℕ) → List ℕ → ℕ → Outcome
  done : List (List ℕ) → ℕ → List ℕ → Outcome
  bad : Outcome

-- how a run goes on from a state
abbrev pub Continuation : Type 0
Continuation = Mode → List (List ℕ) → List ℕ → ℕ → Outcome

-- what an action makes of the state, and how the run goes on from there
abbrev pub follow : Action → ℕ → List (List ℕ) → List ℕ → ℕ → Continuation → List ℕ → Outcome
follow (Keep mode) b fs v n go rest = go mode fs (v ++ (b ∷ [])) (n + 1)
follow OpenQuotes b fs v n go rest = go Quoted fs v (n + 1)
follow CloseQuotes b fs v n go rest = go Closing fs v (n + 1)
follow Separate b fs v n go rest = go Plain (fs ++ (v ∷ [])) [] (n + 1)
follow Return b fs v n go rest = go Returned fs v n
follow End b fs v n go rest = done (fs ++ (v ∷ [])) n rest
follow Refuse b fs v n go rest = bad

abbrev pub run : Mode → List (List ℕ) → List ℕ → ℕ → List ℕ → Outcome
run mode fs v n [] = going mode fs v n
run mode fs v n (b ∷ rest) = follow (action_of mode (is_empty v) b) b fs v n (λ m f u k. run m f u k rest) rest

pub run_step : (mode : Mode) (fs : List (List ℕ)) (v : List ℕ) (n b : ℕ) (rest : List ℕ) (a : Action) → action_of mode (is_empty v) b ≡ a
    → run mode fs v n (b ∷ rest) ≡ follow a b fs v n (λ m f u k. run m f u k rest) rest
run_step mode fs v n b rest a e = ap (λ x. follow x b fs v n (λ m f u k. run m f u k rest) rest) e

keeps_plain : (fresh : Bool) (b : ℕ) → plain_byte b ≡ true → action_of Plain fresh b ≡ Keep Plain
keeps_plain fresh b h = grind (arith, nat_tests)

keeps_quoted : (fresh : Bool) (b : ℕ) → text_byte b ≡ true → eqb b 34 ≡ false → action_of Quoted fresh b ≡ Keep Quoted
keeps_quoted fresh b h e = grind (arith, nat_tests)

pub run_plain : (fs : List (List ℕ)) (v field : List ℕ) (n : ℕ) (rest : List ℕ) → list_all plain_byte field ≡ true
    → run Plain fs v n (field ++ rest) ≡ run Plain fs (v ++ field) (n + length field) rest
run_plain fs v [] n rest h = ap (λ u. run Plain fs u n rest) (sym (append-nil v)) ∙ ap (λ k. run Plain fs (v ++ []) k rest) (let e : n ≡ n + 0 = omega arith in e)
run_plain fs v (b ∷ field) n rest h =
    let p = and_parts (plain_byte b) (list_all plain_byte field) h in
    run_step Plain fs v n b (field ++ rest) (Keep Plain) (keeps_plain (is_empty v) b p.0)
    ∙ run_plain fs (v ++ (b ∷ [])) field (n + 1) rest p.1
    ∙ ap (λ u. run Plain fs u (n + 1 + length field) rest) (append_assoc v (b ∷ []) field)
    ∙ ap (λ k. run Plain fs (v ++ (b ∷ field)) k rest) (let e : n + 1 + length field ≡ n + suc (length field) = omega arith in e)

-- the two quotes that stand for one
run_twice : (fs : List (List ℕ)) (v : List ℕ) (n : ℕ) (rest : List ℕ) → run Quoted fs v n (34 ∷ (34 ∷ rest)) ≡ run Quoted fs (v ++ (34 ∷ [])) (n + 1 + 1) rest
run_twice fs v n rest = refl

pub run_doubled : (fs : List (List ℕ)) (v field : List ℕ) (n : ℕ) (rest : List ℕ) → list_all text_byte field ≡ true
    → run Quoted fs v n (doubled field ++ rest) ≡ run Quoted fs (v ++ field) (n + length (doubled field)) rest
run_doubled fs v [] n rest h = ap (λ u. run Quoted fs u n rest) (sym (append-nil v)) ∙ ap (λ k. run Quoted fs (v ++ []) k rest) (let e : n ≡ n + 0 = omega arith in e)
run_doubled fs v (b ∷ field) n rest h =
    let p = and_parts (text_byte b) (list_all text_byte field) h in
    cond_both (eqb b 34) (34 ∷ (34 ∷ [])) (b ∷ [])
    (λ d. run Quoted fs v n ((d ++ doubled field) ++ rest) ≡ run Quoted fs (v ++ (b ∷ field)) (n + length (d ++ doubled field)) rest)
    (λ quote. run_doubled fs (v ++ (34 ∷ [])) field (n + 1 + 1) rest p.1
    ∙ ap (λ u. run Quoted fs u (n + 1 + 1 + length (doubled field)) rest) (append_assoc v (34 ∷ []) field ∙ ap (λ x. v ++ (x ∷ field)) (sym (eqb-true b 34 quote)))
    ∙ ap (λ k. run Quoted fs (v ++ (b ∷ field)) k rest) (let e : n + 1 + 1 + length (doubled field) ≡ n + suc (suc (length (doubled field))) = omega arith in e))
    (λ other. run_step Quoted fs v n b (doubled field ++ rest) (Keep Quoted) (keeps_quoted (is_empty v) b p.0 other)
    ∙ run_doubled fs (v ++ (b ∷ [])) field (n + 1) rest p.1
    ∙ ap (λ u. run Quoted fs u (n + 1 + length (doubled field)) rest) (append_assoc v (b ∷ []) field)
    ∙ ap (λ k. run Quoted fs (v ++ (b ∷ field)) k rest) (let e : n + 1 + length (doubled field) ≡ n + suc (length (doubled field)) = omega arith in e))

pub run_in_quotes : (fs : List (List ℕ)) (field : List ℕ) (n : ℕ) (rest : List ℕ) → list_all text_byte field ≡ true
    → run Plain fs [] n (in_quotes field ++ rest) ≡ run Closing fs field (n + length (in_quotes field)) rest
run_in_quotes fs field n rest h =
    ap (λ x. run Quoted fs [] (n + 1) x) (append_assoc (doubled field) (34 ∷ []) rest)
    ∙ run_doubled fs [] field (n + 1) (34 ∷ rest) h
    ∙ ap (λ k. run Closing fs field k rest)
    (let e : n + 1 + length (doubled field) + 1 ≡ n + suc (length (doubled field ++ (34 ∷ []))) = omega (arith, length_push (doubled field) 34) in e)

-- where a field is over, a comma separates and a CR returns
pub record Over (mode : Mode) : Type 0 where
  pub separates : (fresh : Bool) → action_of mode fresh 44 ≡ Separate
  pub returns : (fresh : Bool) → action_of mode fresh 13 ≡ Return

pub record Across (fs : List (List ℕ)) (field : List ℕ) (n : ℕ) (written : List ℕ) : Type 0 where
  pub mode : Mode
  pub over : Over mode
  pub runs : (rest : List ℕ) → run Plain fs [] n (written ++ rest) ≡ run mode fs field (n + length written) rest

-- a written field is read as itself
pub run_field : {field written : List ℕ} (fs : List (List ℕ)) (n : ℕ) → Field field written → Across fs field n written
run_field {field} fs n (plain h) = record { mode = Plain; over = record { separates = λ _. refl; returns = λ _. refl }; runs = λ rest. run_plain fs [] field n rest h }
run_field {field} fs n (quoted h) = record { mode = Closing; over = record { separates = λ _. refl; returns = λ _. refl }; runs = λ rest. run_in_quotes fs field n rest h }

pub run_comma : {field written : List ℕ} (fs : List (List ℕ)) (n : ℕ) (rest : List ℕ) → Field field written
    → run Plain fs [] n (written ++ (44 ∷ rest)) ≡ run Plain (fs ++ (field ∷ [])) [] (n + length written + 1) rest
run_comma {field} {written} fs n rest f =
    let a = run_field fs n f in
    a.runs (44 ∷ rest) ∙ run_step a.mode fs field (n + length written) 44 rest Separate (a.over.separates (is_empty field))

pub run_return : {field written : List ℕ} (fs : List (List ℕ)) (n : ℕ) (rest : List ℕ) → Field field written
    → run Plain fs [] n (written ++ (13 ∷ rest)) ≡ run Returned fs field (n + length written) rest
run_return {field} {written} fs n rest f =
    let a = run_field fs n f in
    a.runs (13 ∷ rest) ∙ run_step a.mode fs field (n + length written) 13 rest Return (a.over.returns (is_empty field))

-- a written record is read as its fields, with what follows it untouched
pub run_fields : {fields : List (List ℕ)} {written : List ℕ} (fs : List (List ℕ)) (n : ℕ) (rest : List ℕ) → Fields fields written
    → run Plain fs [] n (written ++ (13 ∷ (10 ∷ rest))) ≡ done (fs ++ fields) (n + length written) rest
run_fields fs n rest (one f) = run_return fs n (10 ∷ rest) f
run_fields fs n rest (more {field} {written} {fields} {rest = others} f more_fields) =
    ap (run Plain fs [] n) (append_assoc written (44 ∷ others) (13 ∷ (10 ∷ rest)))
    ∙ run_comma fs n (others ++ (13 ∷ (10 ∷ rest))) f
    ∙ run_fields (fs ++ (field ∷ [])) (n + length written + 1) rest more_fields
    ∙ ap (λ x. done x (n + length written + 1 + length others) rest) (append_assoc fs (field ∷ []) fields)
    ∙ ap (λ k. done (fs ++ (field ∷ fields)) k rest)
    (let e : n + length written + 1 + length others ≡ n + length (written ++ (44 ∷ others)) = omega (arith, length-append written (44 ∷ others)) in e)

-- a run that comes to a record's end counts up: bytes and fields that were read are the record's
pub record Grown (fs : List (List ℕ)) (n : ℕ) (fields : List (List ℕ)) (total : ℕ) : Type 0 where
  pub longer : length fs < length fields
  pub counts : n ≤ total

grown_follow : (a : Action) (b : ℕ) (fs : List (List ℕ)) (v : List ℕ) (n : ℕ) (go : Continuation) (rest : List ℕ) (fields : List (List ℕ)) (total : ℕ) (tail : List ℕ)
    → ((mode : Mode) (fs : List (List ℕ)) (v : List ℕ) (n : ℕ) → go mode fs v n ≡ done fields total tail → Grown fs n fields total)
    → follow a b fs v n go rest ≡ done fields total tail → Grown fs n fields total
grown_follow (Keep mode) b fs v n go rest fields total tail grow e = let g = grow mode fs (v ++ (b ∷ [])) (n + 1) e in record { longer = g.longer; counts = omega (arith, g.counts) }
grown_follow OpenQuotes b fs v n go rest fields total tail grow e = let g = grow Quoted fs v (n + 1) e in record { longer = g.longer; counts = omega (arith, g.counts) }
grown_follow CloseQuotes b fs v n go rest fields total tail grow e = let g = grow Closing fs v (n + 1) e in record { longer = g.longer; counts = omega (arith, g.counts) }
grown_follow Separate b fs v n go rest fields total tail grow e =
    let g = grow Plain (fs ++ (v ∷ [])) [] (n + 1) e in
    record { longer = omega (arith, g.longer, length_push fs v); counts = omega (arith, g.counts) }
grown_follow Return b fs v n go rest fields total tail grow e = grow Returned fs v n e
grown_follow End b fs v n go rest fields total tail grow e =
    let same : fs ++ (v ∷ []) ≡ fields = cc in
    let level : n ≡ total = cc in
    record { longer = omega (arith, length_push fs v, ap length same); counts = omega arith }
grown_follow Refuse b fs v n go rest fields total tail grow e = let z : ◌≡◌ {A = ℕ} 0 1 = cc in absurd (omega arith)

pub run_grows : (mode : Mode) (fs : List (List ℕ)) (v : List ℕ) (n : ℕ) (text : List ℕ) (fields : List (List ℕ)) (total : ℕ) (tail : List ℕ)
    → run mode fs v n text ≡ done fields total tail → Grown fs n fields total
run_grows mode fs v n [] fields total tail e = let z : ◌≡◌ {A = ℕ} 0 1 = cc in absurd (omega arith)
run_grows mode fs v n (b ∷ text) fields total tail e =
    grown_follow (action_of mode (is_empty v) b) b fs v n (λ m f u k. run m f u k text) text fields total tail
    (λ m f u k. run_grows m f u k text fields total tail) e
