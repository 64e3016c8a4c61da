-- What a byte makes of what is read of a record, from what it makes of the record under way.
use Rattle.std.proofs.Common.{◌≡◌, ℕ, ◌+◌, ◌<◌, ◌≤◌, Bool, true, ◌⊎◌, List, [], ◌∷◌, ◌++◌, length, get_or, take, drop, Ok, Err, Result, sym, refl, ap, ◌∙◌, subst, ⊎_elim, arith}
use Rattle.std.proofs.lemmas.List.{append_assoc, length-append, length-take-le, take_more, drop_more, take-append-drop}
use Rattle.records.specs.Actions.{action_of}
use Rattle.records.specs.FieldLists.{is_empty, complete, current, fields_of}
use Rattle.records.specs.Grammar.{Record, FirstFault}
use Rattle.records.specs.Reading.{UnderWay, start}
use Rattle.records.specs.Drafts.{Holds, Stands, Counted, CountedField, Takes, ReadOn, ended, broken, FinishOn, finished, too_soon}
use Rattle.records.specs.declared.action.Mode.{Mode}
use Rattle.records.specs.declared.action.Mode.TheVariants.{Plain, Quoted, Closing, Returned}
use Rattle.records.specs.declared.action.Action.{Action}
use Rattle.records.specs.declared.action.Action.TheVariants.{Keep, OpenQuotes, CloseQuotes, Separate, Return, End, Refuse}
use Rattle.records.specs.declared.draft.Draft.{Draft}
use Rattle.records.specs.declared.fault.Fault.{Fault}
use Rattle.records.specs.declared.fault.Fault.TheVariants.{BadText, TooLong}
use Rattle.records.specs.declared.field_list.FieldList.{FieldList}
use Rattle.records.specs.declared.reader.Event.{Event}
use Rattle.records.specs.declared.reader.Event.TheVariants.{More, Record as Ended}
use Rattle.records.proofs.Laid.{length_first_fields}
use Rattle.records.proofs.Steps.{goes_keep, goes_open, goes_close, goes_separate, goes_return, ends_record}
use Rattle.records.proofs.Faults.{counts, TooMuch, of_bytes, of_fields, first_bad, first_long, ends_text, cut_off}

pub few_complete : (l : FieldList) → length (complete l) ≤ 39
few_complete l = omega (arith, length_first_fields l.bytes.items l.ends.items (length l.ends.items), l.few)

stands_holds : (d : Draft) (m : Mode) (fs : List (List ℕ)) (v : List ℕ) (n : ℕ) (p : List ℕ) → Stands d m fs v n → UnderWay m fs v n p → Holds d p
stands_holds d m fs v n p s u =
    subst (λ x. UnderWay x (complete d.fields) (current d.fields) d.taken p) (sym s.mode)
    (subst (λ x. UnderWay m x (current d.fields) d.taken p) (sym s.before)
    (subst (λ x. UnderWay m fs x d.taken p) (sym s.last)
    (subst (λ x. UnderWay m fs v x p) (sym s.taken) u)))

-- a byte, from what the calls answered of it
module _ (e f : Draft) (b : ℕ) {fresh : Bool} {act : Action} (fresh_is : fresh ≡ is_empty (current e.fields)) (act_is : act ≡ action_of e.mode fresh b) where
  acts : {a : Action} → act ≡ a → action_of e.mode (is_empty (current e.fields)) b ≡ a
  acts is = sym (ap (λ x. action_of e.mode x b) fresh_is) ∙ sym act_is ∙ is

  too_long : {a : Action} → act ≡ a → (x : Fault) → x ≡ TooLong → TooMuch a (complete e.fields) e.taken → Takes e b (Err x) f
  too_long {a} is x fault too p u rest =
      subst (FirstFault (p ++ (b ∷ rest)) (length p)) (sym fault)
      (first_long e.mode (complete e.fields) (current e.fields) e.taken b p u (few_complete e.fields) e.short a (acts is) too rest)

  counted : {a : Action} → act ≡ a → (m : Mode) (fs : List (List ℕ)) (v : List ℕ) → counts a ≡ true
      → ((p : List ℕ) → Holds e p → UnderWay m fs v (e.taken + 1) (p ++ (b ∷ [])))
      → (r : Result Event Fault) → Counted r e f m fs v → Takes e b r f
  counted is m fs v c go (Ok More) k = λ p u. stands_holds f m fs v (e.taken + 1) (p ++ (b ∷ [])) k.0 (go p u)
  counted is m fs v c go (Ok Ended) k = absurd k
  counted is m fs v c go (Err x) k = too_long is x k.0 (of_bytes c k.1)

  pub takes_keep : (m : Mode) → act ≡ Keep m → (r : Result Event Fault) → Counted r e f m (complete e.fields) (current e.fields ++ (b ∷ [])) → Takes e b r f
  takes_keep m is =
      counted is m (complete e.fields) (current e.fields ++ (b ∷ [])) refl (λ p. goes_keep e.mode m (complete e.fields) (current e.fields) e.taken b p (acts is))

  pub takes_open : act ≡ OpenQuotes → (r : Result Event Fault) → Counted r e f Quoted (complete e.fields) (current e.fields) → Takes e b r f
  takes_open is =
      counted is Quoted (complete e.fields) (current e.fields) refl (λ p. goes_open e.mode (complete e.fields) (current e.fields) e.taken b p (acts is))

  pub takes_close : act ≡ CloseQuotes → (r : Result Event Fault) → Counted r e f Closing (complete e.fields) (current e.fields) → Takes e b r f
  takes_close is =
      counted is Closing (complete e.fields) (current e.fields) refl (λ p. goes_close e.mode (complete e.fields) (current e.fields) e.taken b p (acts is))

  pub takes_separate : act ≡ Separate → (r : Result Event Fault) → CountedField r e f → Takes e b r f
  takes_separate is (Ok More) k = λ p u.
      stands_holds f Plain (complete e.fields ++ (current e.fields ∷ [])) [] (e.taken + 1) (p ++ (b ∷ [])) k.0
      (goes_separate e.mode (complete e.fields) (current e.fields) e.taken b p (acts is) u)
  takes_separate is (Ok Ended) k = absurd k
  takes_separate is (Err x) k =
      too_long is x k.0
      (⊎_elim (λ h. of_bytes refl h) (λ h. of_fields refl (omega (arith, h, length_first_fields e.fields.bytes.items e.fields.ends.items (length e.fields.ends.items)))) k.1)

  pub takes_return : act ≡ Return → (p : List ℕ) → Holds e p → UnderWay Returned (complete e.fields) (current e.fields) e.taken (p ++ (b ∷ []))
  takes_return is p = goes_return e.mode (complete e.fields) (current e.fields) e.taken b p (acts is)

  pub takes_end : act ≡ End → Takes e b (Ok Ended) e
  takes_end is p u = ends_record e.mode (complete e.fields) (current e.fields) e.taken b p (acts is) u (few_complete e.fields) e.short

  pub takes_refuse : act ≡ Refuse → Takes e b (Err BadText) e
  takes_refuse is p u = first_bad e.mode (complete e.fields) (current e.fields) e.taken b p u (few_complete e.fields) e.short (acts is)

-- what each action makes of it
pub ruleset takes = (takes_keep, takes_open, takes_close, takes_separate, takes_return, takes_end, takes_refuse)

-- before the first byte of a record
pub under_way_start : (l : FieldList) → complete l ≡ [] → current l ≡ [] → UnderWay Plain (complete l) (current l) 0 []
under_way_start l none empty =
    subst (λ fs. UnderWay Plain fs (current l) 0 []) (sym none)
    (subst (λ v. UnderWay Plain [] v 0 []) (sym empty)
    (record { before = []; part = []; separated = start; partly = (refl, refl); joined = refl; counted = refl }))

-- a part of a text, byte after byte
module _ (e : Draft) (part : List ℕ) where
  -- the first i bytes are taken in
  abbrev pub Along : Draft → ℕ → Type 0
  Along f i = (p : List ℕ) → Holds e p → Holds f (p ++ take i part)

  pub along_more : (f g : Draft) (i : ℕ) → i < length part → Along f i → Takes f (get_or part i 0) (Ok More) g → Along g (i + 1)
  along_more f g i within along takes p t =
      subst (Holds g) (append_assoc p (take i part) (get_or part i 0 ∷ []) ∙ ap (λ x. p ++ x) (sym (take_more part i 0 within)))
      (takes (p ++ take i part) (along p t))

  -- what comes after the first i bytes
  after : (p : List ℕ) (i : ℕ) (rest : List ℕ) → i < length part → (p ++ take i part) ++ (get_or part i 0 ∷ (drop (i + 1) part ++ rest)) ≡ p ++ (part ++ rest)
  after p i rest within =
      append_assoc p (take i part) (get_or part i 0 ∷ (drop (i + 1) part ++ rest))
      ∙ ap (λ x. p ++ x) (ap (λ x. take i part ++ (x ++ rest)) (sym (drop_more part i 0 within)) ∙ sym (append_assoc (take i part) (drop i part) rest) ∙ ap (λ x. x ++ rest) (take-append-drop i part))

  pub along_ended : (f g : Draft) (i : ℕ) → i < length part → Along f i → Takes f (get_or part i 0) (Ok Ended) g → ReadOn (Holds e) part (record { used = i + 1; event = Ok Ended }) g
  along_ended f g i within along takes =
      ended refl (omega arith) (omega arith)
      (λ p t rest. subst (λ x. Record x (fields_of g.fields) (drop (i + 1) part ++ rest)) (after p i rest within) (takes (p ++ take i part) (along p t) (drop (i + 1) part ++ rest)))

  pub along_broken : (f g : Draft) (i : ℕ) (x : Fault) → i < length part → Along f i → Takes f (get_or part i 0) (Err x) g → ReadOn (Holds e) part (record { used = i; event = Err x }) g
  along_broken f g i x within along takes =
      broken x refl within
      (λ p t rest. subst (λ n. FirstFault (p ++ (part ++ rest)) n x) (length-append p (take i part) ∙ ap (λ n. length p + n) (length-take-le i part (omega arith)))
      (subst (λ y. FirstFault y (length (p ++ take i part)) x) (after p i rest within) (takes (p ++ take i part) (along p t) (drop (i + 1) part ++ rest))))

-- the end of the text

cut_some : (m : Mode) (fs : List (List ℕ)) (v : List ℕ) (n : ℕ) (p : List ℕ) → (m ≡ Quoted) ⊎ (m ≡ Returned) → UnderWay m fs v n p → 0 < length p
cut_some Quoted fs v n p m u = omega (arith, ap length u.joined, length-append u.before u.part, ap length u.partly.1)
cut_some Returned fs v n p m u = omega (arith, u.counted)
cut_some Plain fs v n p m u = absurd (grind arith)
cut_some Closing fs v n p m u = absurd (grind arith)

module _ (d : Draft) where
  pub finish_record : (d.mode ≡ Plain) ⊎ (d.mode ≡ Closing) → 0 < d.taken → FinishOn (Holds d) (Ok Ended) d
  finish_record m some =
      finished refl (λ p u. ends_text d.mode (complete d.fields) (current d.fields) d.taken p m u (few_complete d.fields) d.short some)

  pub finish_cut : (d.mode ≡ Quoted) ⊎ (d.mode ≡ Returned) → FinishOn (Holds d) (Err BadText) d
  finish_cut m =
      too_soon BadText refl (λ p u.
      cut_off d.mode (complete d.fields) (current d.fields) d.taken p m u (few_complete d.fields) d.short (cut_some d.mode (complete d.fields) (current d.fields) d.taken p m u))
