-- Where a record under way breaks, and what the end of the text makes of it.
use Rattle.std.proofs.Common.{◌≡◌, ℕ, ◌+◌, ◌<◌, ◌≤◌, Bool, true, false, ◌⊎◌, List, [], ◌∷◌, ◌++◌, length, take, sym, refl, ap, ◌∙◌, subst, inl, inr, arith}
use Rattle.std.proofs.lemmas.List.{append_assoc, append-nil, length-append, length_push, take_at, take_all}
use Rattle.std.proofs.lemmas.Bool.Decides.{nat_tests}
use Rattle.records.specs.Actions.{action_of}
use Rattle.records.specs.FieldLists.{is_empty}
use Rattle.records.specs.Grammar.{Fields, Within, Record, ended, unended, Begins, Fits, FirstFault}
use Rattle.records.specs.Reading.{of_line_end, UnderWay}
use Rattle.records.specs.declared.fault.Fault.TheVariants.{BadText, TooLong}
use Rattle.records.specs.declared.action.Mode.{Mode}
use Rattle.records.specs.declared.action.Mode.TheVariants.{Plain, Quoted, Closing, Returned}
use Rattle.records.specs.declared.action.Action.{Action}
use Rattle.records.specs.declared.action.Action.TheVariants.{Keep, OpenQuotes, CloseQuotes, Separate, Return, End, Refuse}
use Rattle.records.proofs.Machine.{run, run_step, run_grows, run_fields, follow, done, going}
use Rattle.records.proofs.UnderWay.{run_under_way, fields_under_way, level_over, begins_under_way}
use Rattle.records.proofs.Steps.{goes_keep, goes_open, goes_close, goes_separate}

-- a line that a text begins with: a record of any size and its CRLF
pub record Line (text : List ℕ) (fields : List (List ℕ)) : Type 0 where
  pub written : List ℕ
  pub spelled : Fields fields written
  pub tail : List ℕ
  pub joined : text ≡ written ++ (13 ∷ (10 ∷ tail))

-- a text that begins with a record begins with its line, once the CRLF that may be left out is there
abbrev pub line_of_record : {text : List ℕ} {fields : List (List ℕ)} {rest : List ℕ} → Record text fields rest → (more : List ℕ) × (line : Line (text ++ more) fields) × Within fields line.written
line_of_record {text} {rest = rest} (ended written f h e) = ([], record { written = written; spelled = f; tail = rest; joined = append-nil text ∙ e }, h)
line_of_record {text} (unended f h s e) = (13 ∷ (10 ∷ []), record { written = text; spelled = f; tail = []; joined = refl }, h)

module _ (mode : Mode) (fs : List (List ℕ)) (v : List ℕ) (n b : ℕ) (p : List ℕ) (u : UnderWay mode fs v n p) where
  -- a line that goes on from here with this byte
  line_runs : (a : Action) → action_of mode (is_empty v) b ≡ a → (rest : List ℕ) (fields : List (List ℕ)) (line : Line (p ++ (b ∷ rest)) fields)
      → follow a b fs v n (λ m f w k. run m f w k rest) rest ≡ done fields (length line.written) line.tail
  line_runs a e rest fields line =
      sym (run_step mode fs v n b rest a e) ∙ sym (run_under_way mode fs v n p u (b ∷ rest))
      ∙ ap (run Plain [] [] 0) line.joined ∙ run_fields [] 0 line.tail line.spelled
      ∙ ap (λ k. done fields k line.tail) (let z : 0 + length line.written ≡ length line.written = omega arith in z)

  no_line : action_of mode (is_empty v) b ≡ Refuse → (rest : List ℕ) (fields : List (List ℕ)) → Line (p ++ (b ∷ rest)) fields → ⊥
  no_line e rest fields line = let r = line_runs Refuse e rest fields line in let z : ◌≡◌ {A = ℕ} 0 1 = cc in omega arith

-- whether a byte counts towards the limit: all but those of the CRLF that ends the record
abbrev pub counts : Action → Bool
counts (Keep mode) = true
counts OpenQuotes = true
counts CloseQuotes = true
counts Separate = true
counts Return = false
counts End = false
counts Refuse = false

counted_follow : (a : Action) (b : ℕ) (fs : List (List ℕ)) (v : List ℕ) (n : ℕ) (rest : List ℕ) (fields : List (List ℕ)) (total : ℕ) (tail : List ℕ) → counts a ≡ true
    → follow a b fs v n (λ m f w k. run m f w k rest) rest ≡ done fields total tail → n < total
counted_follow (Keep mode) b fs v n rest fields total tail c e = omega (arith, (run_grows mode fs (v ++ (b ∷ [])) (n + 1) rest fields total tail e).counts)
counted_follow OpenQuotes b fs v n rest fields total tail c e = omega (arith, (run_grows Quoted fs v (n + 1) rest fields total tail e).counts)
counted_follow CloseQuotes b fs v n rest fields total tail c e = omega (arith, (run_grows Closing fs v (n + 1) rest fields total tail e).counts)
counted_follow Separate b fs v n rest fields total tail c e = omega (arith, (run_grows Plain (fs ++ (v ∷ [])) [] (n + 1) rest fields total tail e).counts)
counted_follow Return b fs v n rest fields total tail c e = absurd (grind (arith, nat_tests))
counted_follow End b fs v n rest fields total tail c e = absurd (grind (arith, nat_tests))
counted_follow Refuse b fs v n rest fields total tail c e = absurd (grind (arith, nat_tests))

-- a byte too many: past 1,024 bytes, or the comma that starts a 41st field
pub data TooMuch (a : Action) (fs : List (List ℕ)) (n : ℕ) : Type 0 where
  of_bytes : counts a ≡ true → 1024 ≤ n → TooMuch a fs n
  of_fields : a ≡ Separate → 39 ≤ length fs → TooMuch a fs n

counts_too_much : {a : Action} {fs : List (List ℕ)} {n : ℕ} → TooMuch a fs n → counts a ≡ true
counts_too_much (of_bytes c h) = c
counts_too_much (of_fields e h) = ap counts e

level_counted : (mode : Mode) (fresh : Bool) (b : ℕ) (a : Action) → action_of mode fresh b ≡ a → counts a ≡ true → of_line_end mode ≡ 0
level_counted mode fresh b a e c = grind (arith, nat_tests)

begins_next : (mode : Mode) (fs : List (List ℕ)) (v : List ℕ) (n b : ℕ) (p : List ℕ) (a : Action) → UnderWay mode fs v n p → action_of mode (is_empty v) b ≡ a → counts a ≡ true → Begins (p ++ (b ∷ []))
begins_next mode fs v n b p (Keep mode') u e c = (begins_under_way mode' fs (v ++ (b ∷ [])) (n + 1) (p ++ (b ∷ [])) (goes_keep mode mode' fs v n b p e u)).0
begins_next mode fs v n b p OpenQuotes u e c = (begins_under_way Quoted fs v (n + 1) (p ++ (b ∷ [])) (goes_open mode fs v n b p e u)).0
begins_next mode fs v n b p CloseQuotes u e c = (begins_under_way Closing fs v (n + 1) (p ++ (b ∷ [])) (goes_close mode fs v n b p e u)).0
begins_next mode fs v n b p Separate u e c = (begins_under_way Plain (fs ++ (v ∷ [])) [] (n + 1) (p ++ (b ∷ [])) (goes_separate mode fs v n b p e u)).0
begins_next mode fs v n b p Return u e c = absurd (grind (arith, nat_tests))
begins_next mode fs v n b p End u e c = absurd (grind (arith, nat_tests))
begins_next mode fs v n b p Refuse u e c = absurd (grind (arith, nat_tests))

abbrev line_of_begins : (p : List ℕ) (b : ℕ) (g : Begins (p ++ (b ∷ []))) → Line (p ++ (b ∷ g.to_come)) g.fields
line_of_begins p b g = record { written = g.written; spelled = g.spelled; tail = []; joined = sym (append_assoc p (b ∷ []) g.to_come) ∙ g.joined }

pub fits_under_way : (mode : Mode) (fs : List (List ℕ)) (v : List ℕ) (n : ℕ) (p : List ℕ) → UnderWay mode fs v n p → length fs ≤ 39 → n ≤ 1024 → Fits p
fits_under_way mode fs v n p u few short =
    let g = begins_under_way mode fs v n p u in
    record { begins = g.0; few = omega (arith, ap length g.1, length_push fs v); short = omega (arith, g.2) }

module _ (mode : Mode) (fs : List (List ℕ)) (v : List ℕ) (n b : ℕ) (p : List ℕ) (u : UnderWay mode fs v n p) (few : length fs ≤ 39) (short : n ≤ 1024) where
  exceeds : (a : Action) → action_of mode (is_empty v) b ≡ a → TooMuch a fs n → (rest : List ℕ) (fields : List (List ℕ)) (line : Line (p ++ (b ∷ rest)) fields)
      → length fields ≤ 40 → (1024 ≤ n → length line.written ≤ 1024) → ⊥
  exceeds a e (of_bytes c h) rest fields line f s =
      omega (arith, s h, counted_follow a b fs v n rest fields (length line.written) line.tail c (line_runs mode fs v n b p u a e rest fields line))
  exceeds a e (of_fields sep h) rest fields line f s =
      let r = line_runs mode fs v n b p u Separate (e ∙ sep) rest fields line in
      omega (arith, length_push fs v, (run_grows Plain (fs ++ (v ∷ [])) [] (n + 1) rest fields (length line.written) line.tail r).longer)

  -- the byte after p in any text that goes on from p
  before_here : (rest : List ℕ) → take (length p) (p ++ (b ∷ rest)) ≡ p
  before_here rest = take_at p (b ∷ rest) (length p) refl

  up_to_here : (rest : List ℕ) → take (length p + 1) (p ++ (b ∷ rest)) ≡ p ++ (b ∷ [])
  up_to_here rest =
      ap (take (length p + 1)) (sym (append_assoc p (b ∷ []) rest)) ∙ take_at (p ++ (b ∷ [])) rest (length p + 1) (length_push p b)

  abbrev line_on : (rest : List ℕ) (fields : List (List ℕ)) (more : List ℕ) → Line ((p ++ (b ∷ rest)) ++ more) fields → Line (p ++ (b ∷ (rest ++ more))) fields
  line_on rest fields more line = record { written = line.written; spelled = line.spelled; tail = line.tail; joined = sym (append_assoc p (b ∷ rest) more) ∙ line.joined }

  pub first_bad : action_of mode (is_empty v) b ≡ Refuse → (rest : List ℕ) → FirstFault (p ++ (b ∷ rest)) (length p) BadText
  first_bad e rest = record {
    some = omega (arith, length-append p (b ∷ rest));
    no_record = λ fields tail r. let l = line_of_record r in no_line mode fs v n b p u e (rest ++ l.0) fields (line_on rest fields l.0 l.1);
    before = subst Fits (sym (before_here rest)) (fits_under_way mode fs v n p u few short);
    here = inr (λ g. let g' : Begins (p ++ (b ∷ [])) = subst Begins (up_to_here rest) g in no_line mode fs v n b p u e g'.to_come g'.fields (line_of_begins p b g'));
  }

  pub first_long : (a : Action) → action_of mode (is_empty v) b ≡ a → TooMuch a fs n → (rest : List ℕ) → FirstFault (p ++ (b ∷ rest)) (length p) TooLong
  first_long a e too rest = record {
    some = omega (arith, length-append p (b ∷ rest));
    no_record = λ fields tail r. let l = line_of_record r in exceeds a e too (rest ++ l.0) fields (line_on rest fields l.0 l.1) l.2.few (λ _. l.2.short);
    before = subst Fits (sym (before_here rest)) (fits_under_way mode fs v n p u few short);
    here = (
      subst Begins (sym (up_to_here rest)) (begins_next mode fs v n b p a u e (counts_too_much too)),
      λ f. let f' : Fits (p ++ (b ∷ [])) = subst Fits (up_to_here rest) f in
          exceeds a e too f'.begins.to_come f'.begins.fields (line_of_begins p b f'.begins) f'.few (λ h. omega (arith, f'.short, length_push p b, u.counted)),
    );
  }

-- the end of the text

-- the text may end where a field may
pub ends_text : (mode : Mode) (fs : List (List ℕ)) (v : List ℕ) (n : ℕ) (p : List ℕ) → (mode ≡ Plain) ⊎ (mode ≡ Closing) → UnderWay mode fs v n p
    → length fs ≤ 39 → n ≤ 1024 → 0 < n → Record p (fs ++ (v ∷ [])) []
ends_text mode fs v n p m u few short some =
    unended (fields_under_way mode fs v n p m u)
    (record { few = omega (arith, length_push fs v); short = omega (arith, u.counted, level_over mode m) }) (omega (arith, u.counted)) refl

-- inside quotes or after a CR no line is complete, with or without a CRLF after the text
cut_short : (mode : Mode) (fs : List (List ℕ)) (v : List ℕ) (n : ℕ) (fields : List (List ℕ)) (total : ℕ) (tail : List ℕ)
    → (mode ≡ Quoted) ⊎ (mode ≡ Returned) → run mode fs v n (13 ∷ (10 ∷ [])) ≡ done fields total tail → ⊥
cut_short Quoted fs v n fields total tail m r = let z : ◌≡◌ {A = ℕ} 0 1 = cc in omega arith
cut_short Returned fs v n fields total tail m r = let z : ◌≡◌ {A = ℕ} 0 1 = cc in omega arith
cut_short Plain fs v n fields total tail m r = absurd (grind arith)
cut_short Closing fs v n fields total tail m r = absurd (grind arith)

no_record_here : (mode : Mode) (fs : List (List ℕ)) (v : List ℕ) (n : ℕ) (p : List ℕ) (fields : List (List ℕ)) (rest : List ℕ)
    → (mode ≡ Quoted) ⊎ (mode ≡ Returned) → UnderWay mode fs v n p → Record p fields rest → ⊥
no_record_here mode fs v n p fields rest m u (ended written f h e) =
    let r : going mode fs v n ≡ done ([] ++ fields) (0 + length written) rest =
    sym (run_under_way mode fs v n p u []) ∙ ap (run Plain [] [] 0) (append-nil p ∙ e) ∙ run_fields [] 0 rest f in
    let z : ◌≡◌ {A = ℕ} 0 1 = cc in omega arith
no_record_here mode fs v n p fields rest m u (unended f h s e) =
    cut_short mode fs v n fields (0 + length p) [] m (sym (run_under_way mode fs v n p u (13 ∷ (10 ∷ []))) ∙ run_fields [] 0 [] f)

pub cut_off : (mode : Mode) (fs : List (List ℕ)) (v : List ℕ) (n : ℕ) (p : List ℕ) → (mode ≡ Quoted) ⊎ (mode ≡ Returned) → UnderWay mode fs v n p
    → length fs ≤ 39 → n ≤ 1024 → 0 < length p → FirstFault p (length p) BadText
cut_off mode fs v n p m u few short some = record {
  some = some;
  no_record = λ fields rest r. no_record_here mode fs v n p fields rest m u r;
  before = subst Fits (sym (take_all (length p) p (omega arith))) (fits_under_way mode fs v n p u few short);
  here = inl refl;
}
