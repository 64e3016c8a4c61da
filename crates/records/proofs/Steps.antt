-- What a byte makes of a record under way: the record goes on, ends, or breaks at its first fault.
use Rattle.std.proofs.Common.{◌≡◌, ℕ, ◌+◌, ◌≤◌, Bool, true, false, eqb, ◌⊎◌, List, [], ◌∷◌, ◌++◌, length, sym, refl, ap, ◌∙◌, subst, inl, inr, arith}
use Rattle.std.proofs.lemmas.List.{append_assoc, append-nil, length_push, nil_from_length}
use Rattle.std.proofs.lemmas.List.Concat.{flat_map-append}
use Rattle.std.proofs.lemmas.Grind.{common_steps}
use Rattle.std.proofs.lemmas.Bool.{cond-false, eqb-true}
use Rattle.std.proofs.lemmas.Bool.Decides.{nat_tests}
use Rattle.records.specs.Actions.{action_of}
use Rattle.records.specs.FieldLists.{is_empty}
use Rattle.records.specs.Grammar.{plain_byte, text_byte, doubled, Field, Record, ended}
use Rattle.records.specs.Reading.{next, Part, of_line_end, UnderWay}
use Rattle.records.specs.declared.action.Mode.{Mode}
use Rattle.records.specs.declared.action.Mode.TheVariants.{Plain, Quoted, Closing, Returned}
use Rattle.records.specs.declared.action.Action.{Action}
use Rattle.records.specs.declared.action.Action.TheVariants.{Keep, OpenQuotes, CloseQuotes, Separate, Return, End}
use Rattle.records.proofs.UnderWay.{last_field, written_part, level_over}

-- what each action tells of the byte and the place

kept_plain : (fresh : Bool) (b : ℕ) (mode : Mode) → action_of Plain fresh b ≡ Keep mode → (mode ≡ Plain) × (plain_byte b ≡ true)
kept_plain fresh b mode e = (grind (arith, nat_tests), grind (arith, nat_tests))

kept_quoted : (fresh : Bool) (b : ℕ) (mode : Mode) → action_of Quoted fresh b ≡ Keep mode → (mode ≡ Quoted) × (text_byte b ≡ true) × (eqb b 34 ≡ false)
kept_quoted fresh b mode e = (grind (arith, nat_tests), grind (arith, nat_tests), grind (arith, nat_tests))

kept_closing : (fresh : Bool) (b : ℕ) (mode : Mode) → action_of Closing fresh b ≡ Keep mode → (mode ≡ Quoted) × (b ≡ 34)
kept_closing fresh b mode e = (grind (arith, nat_tests), grind (arith, nat_tests))

kept_returned : (fresh : Bool) (b : ℕ) (mode : Mode) → action_of Returned fresh b ≡ Keep mode → ⊥
kept_returned fresh b mode e = grind (arith, nat_tests)

opened : (mode : Mode) (fresh : Bool) (b : ℕ) → action_of mode fresh b ≡ OpenQuotes → (mode ≡ Plain) × (b ≡ 34) × (fresh ≡ true)
opened mode fresh b e = (grind (arith, nat_tests), grind (arith, nat_tests), grind (arith, nat_tests))

closed : (mode : Mode) (fresh : Bool) (b : ℕ) → action_of mode fresh b ≡ CloseQuotes → (mode ≡ Quoted) × (b ≡ 34)
closed mode fresh b e = (grind (arith, nat_tests), grind (arith, nat_tests))

-- a comma and a CR come where a field may be over
over_mode : (mode : Mode) (fresh : Bool) (b : ℕ) (a : Action) → action_of mode fresh b ≡ a → (a ≡ Separate) ⊎ (a ≡ Return) → (mode ≡ Plain) ⊎ (mode ≡ Closing)
over_mode mode fresh b a e o = grind (arith, nat_tests)

over_field : (mode : Mode) (fresh : Bool) (b : ℕ) (v part : List ℕ) (a : Action) → action_of mode fresh b ≡ a → (a ≡ Separate) ⊎ (a ≡ Return) → Part mode v part → Field v part × (of_line_end mode ≡ 0)
over_field mode fresh b v part a e o p = let m = over_mode mode fresh b a e o in (written_part mode v part m p, level_over mode m)

separated_by : (mode : Mode) (fresh : Bool) (b : ℕ) → action_of mode fresh b ≡ Separate → b ≡ 44
separated_by mode fresh b e = grind (arith, nat_tests)

returned_by : (mode : Mode) (fresh : Bool) (b : ℕ) → action_of mode fresh b ≡ Return → b ≡ 13
returned_by mode fresh b e = grind (arith, nat_tests)

ended_by : (mode : Mode) (fresh : Bool) (b : ℕ) → action_of mode fresh b ≡ End → (mode ≡ Returned) × (b ≡ 10)
ended_by mode fresh b e = (grind (arith, nat_tests), grind (arith, nat_tests))

-- the record goes on

-- one byte more of the last field
onward : (mode mode' : Mode) (fs : List (List ℕ)) (v v' : List ℕ) (n n' b : ℕ) (p : List ℕ) (u : UnderWay mode fs v n p)
    → Part mode' v' (u.part ++ (b ∷ [])) → n + of_line_end mode + 1 ≡ n' + of_line_end mode' → UnderWay mode' fs v' n' (p ++ (b ∷ []))
onward mode mode' fs v v' n n' b p u part' c = record {
  before = u.before;
  part = u.part ++ (b ∷ []);
  separated = u.separated;
  partly = part';
  joined = ap (λ x. x ++ (b ∷ [])) u.joined ∙ append_assoc u.before u.part (b ∷ []);
  counted = omega (arith, u.counted, length_push p b, c);
}

part_keep : (mode mode' : Mode) (v part : List ℕ) (b : ℕ) → action_of mode (is_empty v) b ≡ Keep mode' → Part mode v part → Part mode' (v ++ (b ∷ [])) (part ++ (b ∷ []))
part_keep Plain mode' v part b e (h, p) =
    let k = kept_plain (is_empty v) b mode' e in
    subst (λ m. Part m (v ++ (b ∷ [])) (part ++ (b ∷ []))) (sym k.0) (grind (arith, common_steps, k.1), ap (λ x. x ++ (b ∷ [])) p)
part_keep Quoted mode' v part b e (h, p) =
    let k = kept_quoted (is_empty v) b mode' e in
    let single : doubled (b ∷ []) ≡ b ∷ [] = ap (λ x. x ++ []) (cond-false (eqb b 34) (34 ∷ (34 ∷ [])) (b ∷ []) k.2) in
    subst (λ m. Part m (v ++ (b ∷ [])) (part ++ (b ∷ []))) (sym k.0) (
      grind (arith, common_steps, k.1),
      ap (λ x. x ++ (b ∷ [])) p ∙ ap (λ x. 34 ∷ x) (ap (λ x. doubled v ++ x) (sym single) ∙ sym (flat_map-append _ v (b ∷ []))),
    )
part_keep Closing mode' v part b e (h, p) =
    let k = kept_closing (is_empty v) b mode' e in
    subst (λ m. Part m (v ++ (b ∷ [])) (part ++ (b ∷ []))) (sym k.0)
    (subst (λ x. Part Quoted (v ++ (x ∷ [])) (part ++ (x ∷ []))) (sym k.1) (
      grind (arith, common_steps),
      ap (λ x. x ++ (34 ∷ [])) p ∙ ap (λ x. 34 ∷ x) (append_assoc (doubled v) (34 ∷ []) (34 ∷ []) ∙ sym (flat_map-append _ v (34 ∷ []))),
    ))
part_keep Returned mode' v part b e p = absurd (kept_returned (is_empty v) b mode' e)

level_keep : (mode mode' : Mode) (fresh : Bool) (b : ℕ) → action_of mode fresh b ≡ Keep mode' → (of_line_end mode ≡ 0) × (of_line_end mode' ≡ 0)
level_keep mode mode' fresh b e = (grind (arith, nat_tests), grind (arith, nat_tests))

pub goes_keep : (mode mode' : Mode) (fs : List (List ℕ)) (v : List ℕ) (n b : ℕ) (p : List ℕ) → action_of mode (is_empty v) b ≡ Keep mode'
    → UnderWay mode fs v n p → UnderWay mode' fs (v ++ (b ∷ [])) (n + 1) (p ++ (b ∷ []))
goes_keep mode mode' fs v n b p e u =
    let l = level_keep mode mode' (is_empty v) b e in
    onward mode mode' fs v (v ++ (b ∷ [])) n (n + 1) b p u (part_keep mode mode' v u.part b e u.partly) (omega (arith, l.0, l.1))

pub goes_open : (mode : Mode) (fs : List (List ℕ)) (v : List ℕ) (n b : ℕ) (p : List ℕ) → action_of mode (is_empty v) b ≡ OpenQuotes
    → UnderWay mode fs v n p → UnderWay Quoted fs v (n + 1) (p ++ (b ∷ []))
goes_open mode fs v n b p e u =
    let o = opened mode (is_empty v) b e in
    let none : v ≡ [] = nil_from_length v (eqb-true (length v) 0 o.2) in
    let bare : Part Plain v u.part = subst (λ m. Part m v u.part) o.0 u.partly in
    onward mode Quoted fs v v n (n + 1) b p u
    (subst (λ w. Part Quoted w (u.part ++ (b ∷ []))) (sym none) (refl, ap (λ x. x ++ (b ∷ [])) (bare.1 ∙ none) ∙ ap (λ x. x ∷ []) o.1))
    (omega (arith, ap of_line_end o.0))

pub goes_close : (mode : Mode) (fs : List (List ℕ)) (v : List ℕ) (n b : ℕ) (p : List ℕ) → action_of mode (is_empty v) b ≡ CloseQuotes
    → UnderWay mode fs v n p → UnderWay Closing fs v (n + 1) (p ++ (b ∷ []))
goes_close mode fs v n b p e u =
    let o = closed mode (is_empty v) b e in
    let inside : Part Quoted v u.part = subst (λ m. Part m v u.part) o.0 u.partly in
    onward mode Closing fs v v n (n + 1) b p u
    (inside.0, ap (λ x. x ++ (b ∷ [])) inside.1 ∙ ap (λ x. 34 ∷ (doubled v ++ (x ∷ []))) o.1)
    (omega (arith, ap of_line_end o.0))

pub goes_return : (mode : Mode) (fs : List (List ℕ)) (v : List ℕ) (n b : ℕ) (p : List ℕ) → action_of mode (is_empty v) b ≡ Return
    → UnderWay mode fs v n p → UnderWay Returned fs v n (p ++ (b ∷ []))
goes_return mode fs v n b p e u =
    let o = over_field mode (is_empty v) b v u.part Return e (inr refl) u.partly in
    onward mode Returned fs v v n n b p u
    (u.part, o.0, ap (λ x. u.part ++ (x ∷ [])) (returned_by mode (is_empty v) b e))
    (omega (arith, o.1))

pub goes_separate : (mode : Mode) (fs : List (List ℕ)) (v : List ℕ) (n b : ℕ) (p : List ℕ) → action_of mode (is_empty v) b ≡ Separate
    → UnderWay mode fs v n p → UnderWay Plain (fs ++ (v ∷ [])) [] (n + 1) (p ++ (b ∷ []))
goes_separate mode fs v n b p e u =
    let o = over_field mode (is_empty v) b v u.part Separate e (inl refl) u.partly in
    let bytes : p ++ (b ∷ []) ≡ u.before ++ (u.part ++ (44 ∷ [])) =
    ap (λ x. x ++ (b ∷ [])) u.joined ∙ append_assoc u.before u.part (b ∷ []) ∙ ap (λ x. u.before ++ (u.part ++ (x ∷ []))) (separated_by mode (is_empty v) b e) in
    record {
      before = u.before ++ (u.part ++ (44 ∷ []));
      part = [];
      separated = next u.separated o.0;
      partly = (refl, refl);
      joined = bytes ∙ sym (append-nil (u.before ++ (u.part ++ (44 ∷ []))));
      counted = omega (arith, u.counted, length_push p b, o.1);
    }

-- the record ends

pub ends_record : (mode : Mode) (fs : List (List ℕ)) (v : List ℕ) (n b : ℕ) (p : List ℕ) → action_of mode (is_empty v) b ≡ End
    → UnderWay mode fs v n p → length fs ≤ 39 → n ≤ 1024 → (rest : List ℕ) → Record (p ++ (b ∷ rest)) (fs ++ (v ∷ [])) rest
ends_record mode fs v n b p e u few short rest =
    let o = ended_by mode (is_empty v) b e in
    let last : Part Returned v u.part = subst (λ m. Part m v u.part) o.0 u.partly in
    let w = last.0 in
    let bytes : p ≡ (u.before ++ w) ++ (13 ∷ []) = u.joined ∙ ap (λ x. u.before ++ x) last.2 ∙ sym (append_assoc u.before w (13 ∷ [])) in
    ended (u.before ++ w) (last_field u.separated last.1)
    (record { few = omega (arith, length_push fs v); short = omega (arith, u.counted, ap of_line_end o.0, ap length bytes, length_push (u.before ++ w) 13) })
    (ap (λ x. x ++ (b ∷ rest)) bytes ∙ append_assoc (u.before ++ w) (13 ∷ []) (b ∷ rest) ∙ ap (λ x. (u.before ++ w) ++ (13 ∷ (x ∷ rest))) o.1)
