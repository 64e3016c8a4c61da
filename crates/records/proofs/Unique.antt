-- A text has at most one reading.
use Rattle.std.proofs.Common.{◌≡◌, ℕ, ◌+◌, ◌<◌, ◌≤◌, List, [], ◌∷◌, ◌++◌, length, take, drop, sym, refl, ap, ◌∙◌, subst, ⊎_elim, arith}
use Rattle.std.proofs.lemmas.List.{append_assoc, length-append, length-take, take_all, take-take, take-append-drop}
use Rattle.std.proofs.lemmas.Bool.{cases_lt}
use Rattle.records.specs.Grammar.{Fields, ended, unended, Begins, Fits, Breaks, FirstFault, OneRecord, OneFault}
use Rattle.records.specs.declared.action.Mode.TheVariants.{Plain}
use Rattle.records.specs.declared.fault.Fault.{Fault}
use Rattle.records.specs.declared.fault.Fault.TheVariants.{BadText, TooLong}
use Rattle.records.proofs.Machine.{run, run_fields, done}

-- two lines that a text begins with are one
one_line : (text : List ℕ) (fields fields' : List (List ℕ)) (w w' rest rest' : List ℕ) → Fields fields w → Fields fields' w'
    → text ≡ w ++ (13 ∷ (10 ∷ rest)) → text ≡ w' ++ (13 ∷ (10 ∷ rest')) → (fields ≡ fields') × (rest ≡ rest')
one_line text fields fields' w w' rest rest' f f' e e' =
    let runs : done fields (0 + length w) rest ≡ done fields' (0 + length w') rest' =
    sym (run_fields [] 0 rest f) ∙ ap (run Plain [] [] 0) (sym e ∙ e') ∙ run_fields [] 0 rest' f' in
    (cc, cc)

-- a text that ends a line and goes on is no record that its end completes
not_both : (text : List ℕ) (fields fields' : List (List ℕ)) (w rest : List ℕ) → Fields fields w → Fields fields' text → text ≡ w ++ (13 ∷ (10 ∷ rest)) → ⊥
not_both text fields fields' w rest f f' e =
    let longer : text ++ (13 ∷ (10 ∷ [])) ≡ w ++ (13 ∷ (10 ∷ (rest ++ (13 ∷ (10 ∷ []))))) =
    ap (λ x. x ++ (13 ∷ (10 ∷ []))) e ∙ append_assoc w (13 ∷ (10 ∷ rest)) (13 ∷ (10 ∷ [])) in
    let same = one_line (text ++ (13 ∷ (10 ∷ []))) fields' fields text w [] (rest ++ (13 ∷ (10 ∷ []))) f' f refl longer in
    omega (arith, ap length same.1, length-append rest (13 ∷ (10 ∷ [])))

pub one_record : OneRecord
one_record text fields fields' rest rest' (ended w f h e) (ended w' f' h' e') = one_line text fields fields' w w' rest rest' f f' e e'
one_record text fields fields' rest rest' (ended w f h e) (unended f' h' s' e') = absurd (not_both text fields fields' w rest f f' e)
one_record text fields fields' rest rest' (unended f h s e) (ended w' f' h' e') = absurd (not_both text fields' fields w' rest' f' f e')
one_record text fields fields' rest rest' (unended f h s e) (unended f' h' s' e') =
    ((one_line (text ++ (13 ∷ (10 ∷ []))) fields fields' text text [] [] f f' refl refl).0, e ∙ sym e')

-- what fits, fits in every part from the start
fits_less : (text : List ℕ) (k n : ℕ) → k ≤ n → Fits (take n text) → Fits (take k text)
fits_less text k n h f =
    let g = f.begins in
    record {
      begins = record {
        fields = g.fields;
        written = g.written;
        to_come = drop k (take n text) ++ g.to_come;
        spelled = g.spelled;
        joined = sym (append_assoc (take k text) (drop k (take n text)) g.to_come)
            ∙ ap (λ x. x ++ g.to_come) (ap (λ x. x ++ drop k (take n text)) (sym (take-take k n text h)) ∙ take-append-drop k (take n text))
            ∙ g.joined;
      };
      few = f.few;
      short = omega (arith, f.short, length-take k text, length-take n text);
    }

-- a fault lies in the text or at its end
within : (text : List ℕ) (n : ℕ) (x : Fault) → FirstFault text n x → n ≤ length text
within text n x f =
    ⊎_elim
    (λ past. absurd (out past x f))
    (λ in'. in')
    (cases_lt (length text) n)
  where
    out : length text < n → (y : Fault) → FirstFault text n y → ⊥
    out past BadText f = ⊎_elim (λ e. omega arith) (λ none. none (subst Begins (take_all n text (omega arith) ∙ sym (take_all (n + 1) text (omega arith))) f.before.begins)) f.here
    out past TooLong f = f.here.1 (subst Fits (take_all n text (omega arith) ∙ sym (take_all (n + 1) text (omega arith))) f.before)

-- where a text breaks, no longer part of it fits
breaks_off : (text : List ℕ) (m : ℕ) (x : Fault) → m < length text → Breaks text m x → Fits (take (m + 1) text) → ⊥
breaks_off text m BadText h b f = ⊎_elim (λ e. omega arith) (λ none. none f.begins) b
breaks_off text m TooLong h b f = b.1 f

-- no fault lies behind another
not_before : (text : List ℕ) (m n : ℕ) (x y : Fault) → FirstFault text m x → FirstFault text n y → m < n → ⊥
not_before text m n x y f g h = breaks_off text m x (omega (arith, within text n y g)) f.here (fits_less text (m + 1) n (omega arith) g.before)

-- bad text and a record too long are not met at one place
not_mixed : (text : List ℕ) (n : ℕ) → FirstFault text n BadText → FirstFault text n TooLong → ⊥
not_mixed text n f g =
    ⊎_elim
    (λ e. g.here.1 (subst Fits (take_all n text (omega arith) ∙ sym (take_all (n + 1) text (omega arith))) g.before))
    (λ none. none g.here.0)
    f.here

same_fault : (text : List ℕ) (n : ℕ) (x y : Fault) → FirstFault text n x → FirstFault text n y → x ≡ y
same_fault text n BadText BadText f g = refl
same_fault text n TooLong TooLong f g = refl
same_fault text n BadText TooLong f g = absurd (not_mixed text n f g)
same_fault text n TooLong BadText f g = absurd (not_mixed text n g f)

pub one_fault : OneFault
one_fault text m n x y f g =
    let level : m ≡ n = ⊎_elim (λ h. absurd (not_before text m n x y f g h)) (λ h. ⊎_elim (λ k. absurd (not_before text n m y x g f k)) (λ k. omega arith) (cases_lt n m)) (cases_lt m n) in
    (level, same_fault text n x y (subst (λ k. FirstFault text k x) level f) g)
