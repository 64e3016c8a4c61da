-- From what a reader makes of a part of a text to what the desk replies, and to the replies that a whole text gets.
use Rattle.std.proofs.Common.{◌≡◌, ℕ, ◌+◌, List, [], ◌∷◌, ◌++◌, length, Some, None, Option, Ok, Err, Result, sym, refl, ap, ◌∙◌, subst, arith}
use Rattle.std.proofs.lemmas.List.{append_assoc, append-nil}
use Rattle.std.specs.Option.{option_to_list}
use Rattle.ends.specs.declared.table.AccountTable.{AccountTable}
use Rattle.records.specs.FieldLists.{fields_of}
use Rattle.records.specs.Grammar.{FirstFault}
use Rattle.records.specs.Drafts.{Holds, ReadOn, onward, ended, broken, FinishOn, clear, finished, too_soon}
use Rattle.records.specs.Readers.{Taken, TakenAs, Reads, ReadsAs, Finishes, FinishesAs}
use Rattle.records.specs.declared.fault.Fault.{Fault}
use Rattle.records.specs.declared.reader.Reader.{Reader}
use Rattle.records.specs.declared.reader.Progress.{Progress}
use Rattle.records.specs.declared.reader.Event.{Event}
use Rattle.records.specs.declared.reader.Event.TheVariants.{More as Wanting, Record as Ended}
use Rattle.desk.specs.Replies.{unread, refusal_of}
use Rattle.desk.specs.Serving as serving
use Rattle.desk.specs.Serving.{Replied, Served, over, next, broken as broken_off, Serves, TurnOn, replied, faulty, EndOn, between, last, cut_off, TurnsAs, EndsAs, Turns, Ends, Continues, Concludes, Within}
use Rattle.desk.specs.declared.service.Desk.{Desk}
use Rattle.desk.specs.declared.service.Turn.{Turn}
use Rattle.desk.specs.declared.service.Turn.TheVariants.{More, Reply as Answer, End}
use Rattle.desk.specs.declared.reply.Reply.{Reply}

-- two events that are not the same
apart_more_ended : (v : Result Event Fault) → v ≡ Ok Wanting → v ≡ Ok Ended → ⊥
apart_more_ended v p q = let z : ◌≡◌ {A = ℕ} 0 1 = cc in omega arith

apart_more_faulty : (v : Result Event Fault) (x : Fault) → v ≡ Ok Wanting → v ≡ Err x → ⊥
apart_more_faulty v x p q = let z : ◌≡◌ {A = ℕ} 0 1 = cc in omega arith

apart_ended_faulty : (v : Result Event Fault) (x : Fault) → v ≡ Ok Ended → v ≡ Err x → ⊥
apart_ended_faulty v x p q = let z : ◌≡◌ {A = ℕ} 0 1 = cc in omega arith

-- an event names one fault
one_fault : (v : Result Event Fault) (x y : Fault) → v ≡ Err x → v ≡ Err y → x ≡ y
one_fault v x y p q = cc

-- a reader in a record has taken in what its record holds, and one at the end of a record nothing of the next
holds_taken : (g : Reader) (p : List ℕ) → g.status ≡ Ok Wanting → Holds g.draft p → Taken g p
holds_taken g p s h = subst (λ x. TakenAs x g.draft p) (sym s) h

complete_taken : (g : Reader) → g.status ≡ Ok Ended → Taken g []
complete_taken g s = subst (λ x. TakenAs x g.draft []) (sym s) refl

-- what is shown of a reading that goes on and of one that a fault ended holds of every one
each_status : (F G : Result Event Fault → Type 0) → ((v : Event) → F (Ok v) → G (Ok v)) → ((x : Fault) → F (Err x) → G (Err x)) → (s : Result Event Fault) → F s → G s
each_status F G on failed (Ok v) h = on v h
each_status F G on failed (Err x) h = failed x h

-- desks with the same parts are the same
same_desk : (e f : Desk) → f.reader ≡ e.reader → f.table ≡ e.table → f ≡ e
same_desk e f r t =
    let made : Reader → AccountTable → Desk = λ x y. record { reader = x; table = y } in
    ap (λ x. made x f.table) r ∙ ap (made e.reader) t

-- a part of a text: g is the reader after it, and f the desk after the reply

module _ (e f : Desk) (part : List ℕ) (r : Progress) (g : Reader) (same : f.reader ≡ g) (reads : Reads e.reader part r g) where
  -- from what a reader that has not failed makes of the part, and from what a failed one answers
  turns : (turn : Turn) → ((g.status ≡ r.event) × ReadOn (Taken e.reader) part r g.draft → TurnOn e part turn f)
      → ((x : Fault) → ReadsAs (Err x) e.reader part r g → TurnsAs (Err x) e part turn f) → Turns e part turn f
  turns turn on failed = each_status (λ s. ReadsAs s e.reader part r g) (λ s. TurnsAs s e part turn f) (λ _. on) failed e.reader.status reads

  more_on : r.event ≡ Ok Wanting → f.table ≡ e.table → (g.status ≡ r.event) × ReadOn (Taken e.reader) part r g.draft → TurnOn e part More f
  more_on is t (s, onward v u h) = serving.onward refl t (λ p k. subst (λ x. Taken x (p ++ part)) (sym same) (holds_taken g (p ++ part) (s ∙ is) (h p k)))
  more_on is t (s, ended v z u h) = absurd (apart_more_ended r.event is v)
  more_on is t (s, broken x v u h) = absurd (apart_more_faulty r.event x is v)

  pub turn_more : r.event ≡ Ok Wanting → f.table ≡ e.table → Turns e part More f
  turn_more is t = turns More (more_on is t) (λ x h. absurd (apart_more_faulty r.event x is h.0))

  reply_on : (reply : Reply) → r.event ≡ Ok Ended → Replied (fields_of g.draft.fields) e.table reply f.table → (g.status ≡ r.event) × ReadOn (Taken e.reader) part r g.draft → TurnOn e part (Answer r.used reply) f
  reply_on reply is t (s, onward v u h) = absurd (apart_more_ended r.event v is)
  reply_on reply is t (s, ended v z u h) = replied r.used reply (fields_of g.draft.fields) refl z u (subst (λ x. Taken x []) (sym same) (complete_taken g (s ∙ is))) t h
  reply_on reply is t (s, broken x v u h) = absurd (apart_ended_faulty r.event x is v)

  pub turn_reply : (reply : Reply) → r.event ≡ Ok Ended → Replied (fields_of g.draft.fields) e.table reply f.table → Turns e part (Answer r.used reply) f
  turn_reply reply is t = turns (Answer r.used reply) (reply_on reply is t) (λ x h. absurd (apart_ended_faulty r.event x is h.0))

  fault_on : (x : Fault) (reply : Reply) → reply ≡ unread (refusal_of x) → r.event ≡ Err x → f.table ≡ e.table → (g.status ≡ r.event) × ReadOn (Taken e.reader) part r g.draft → TurnOn e part (End reply) f
  fault_on x reply says is t (s, onward v u h) = absurd (apart_more_faulty r.event x v is)
  fault_on x reply says is t (s, ended v z u h) = absurd (apart_ended_faulty r.event x v is)
  fault_on x reply says is t (s, broken y v u h) =
      let one : y ≡ x = one_fault r.event y x v is in
      faulty x r.used (ap End says) (ap (λ d. d.status) same ∙ s ∙ is) t u
      (λ p k rest. subst (FirstFault (p ++ (part ++ rest)) (length p + r.used)) one (h p k rest))

  pub turn_fault : (x : Fault) (reply : Reply) → reply ≡ unread (refusal_of x) → r.event ≡ Err x → f.table ≡ e.table → Turns e part (End reply) f
  turn_fault x reply says is t =
      turns (End reply) (fault_on x reply says is t)
      (λ y h. (ap End says ∙ ap (λ z. End (unread (refusal_of z))) (one_fault r.event x y is h.0), same_desk e f (same ∙ h.2) t))

within_on : (e f : Desk) (part : List ℕ) (r : Turn) → TurnOn e part r f → Within (length part) r
within_on e f part r (serving.onward is t h) = subst (Within (length part)) (sym is) tt
within_on e f part r (replied used reply fields is z u none said h) = subst (Within (length part)) (sym is) (z, u)
within_on e f part r (faulty x used is s t u h) = subst (Within (length part)) (sym is) tt

pub turns_within : (e f : Desk) (part : List ℕ) (r : Turn) → Turns e part r f → Within (length part) r
turns_within e f part r h =
    each_status (λ s. TurnsAs s e part r f) (λ _. Within (length part) r) (λ _. within_on e f part r)
    (λ x failed. subst (Within (length part)) (sym failed.0) tt) e.reader.status h

-- the end of the text

module _ (e f : Desk) (v : Result Event Fault) (g : Reader) (same : f.reader ≡ g) (finishes : Finishes e.reader v g) where
  ends : (r : Option Reply) → ((g.status ≡ v) × FinishOn (Taken e.reader) v g.draft → EndOn e r f)
      → ((x : Fault) → FinishesAs (Err x) e.reader v g → EndsAs (Err x) e r f) → Ends e r f
  ends r on failed = each_status (λ s. FinishesAs s e.reader v g) (λ s. EndsAs s e r f) (λ _. on) failed e.reader.status finishes

  none_on : v ≡ Ok Wanting → f.table ≡ e.table → (g.status ≡ v) × FinishOn (Taken e.reader) v g.draft → EndOn e None f
  none_on is t (s, clear w h) = between refl t (λ p k. (h p k).0)
  none_on is t (s, finished w h) = absurd (apart_more_ended v is w)
  none_on is t (s, too_soon x w h) = absurd (apart_more_faulty v x is w)

  pub end_none : v ≡ Ok Wanting → f.table ≡ e.table → Ends e None f
  end_none is t = ends None (none_on is t) (λ x h. absurd (apart_more_faulty v x is h.0))

  last_on : (reply : Reply) → v ≡ Ok Ended → Replied (fields_of g.draft.fields) e.table reply f.table → (g.status ≡ v) × FinishOn (Taken e.reader) v g.draft → EndOn e (Some reply) f
  last_on reply is t (s, clear w h) = absurd (apart_more_ended v w is)
  last_on reply is t (s, finished w h) = last reply (fields_of g.draft.fields) refl t h
  last_on reply is t (s, too_soon x w h) = absurd (apart_ended_faulty v x is w)

  pub end_reply : (reply : Reply) → v ≡ Ok Ended → Replied (fields_of g.draft.fields) e.table reply f.table → Ends e (Some reply) f
  end_reply reply is t = ends (Some reply) (last_on reply is t) (λ x h. absurd (apart_ended_faulty v x is h.0))

  cut_on : (x : Fault) (reply : Reply) → reply ≡ unread (refusal_of x) → v ≡ Err x → f.table ≡ e.table → (g.status ≡ v) × FinishOn (Taken e.reader) v g.draft → EndOn e (Some reply) f
  cut_on x reply says is t (s, clear w h) = absurd (apart_more_faulty v x w is)
  cut_on x reply says is t (s, finished w h) = absurd (apart_ended_faulty v x w is)
  cut_on x reply says is t (s, too_soon y w h) =
      let one : y ≡ x = one_fault v y x w is in
      cut_off x (ap Some says) (ap (λ d. d.status) same ∙ s ∙ is) t (λ p k. subst (FirstFault p (length p)) one (h p k))

  pub end_fault : (x : Fault) (reply : Reply) → reply ≡ unread (refusal_of x) → v ≡ Err x → f.table ≡ e.table → Ends e (Some reply) f
  end_fault x reply says is t =
      ends (Some reply) (cut_on x reply says is t)
      (λ y h. (ap Some says ∙ ap (λ z. Some (unread (refusal_of z))) (one_fault v x y is h.0), same_desk e f (same ∙ h.1) t))

-- the replies to a whole text

-- a desk whose reading has ended owes nothing
owes_nothing : (e : Desk) (x : Fault) (text : List ℕ) (replies : List Reply) (t : AccountTable) → e.reader.status ≡ Err x → Serves e text replies t
owes_nothing e x text replies t s p k = absurd (subst (λ y. TakenAs y e.reader.draft p) s k)

continues_on : (e f : Desk) (part : List ℕ) (r : Turn) → TurnOn e part r f → Continues e part r f
continues_on e f part r (serving.onward is t h) =
    subst (λ x. Continues e part x f) (sym is)
    (λ rest replies t' serves p k.
    subst (λ x. Served e.table x replies t') (append_assoc p part rest) (subst (λ x. Served x ((p ++ part) ++ rest) replies t') t (serves (p ++ part) (h p k))))
continues_on e f part r (replied used reply fields is z u none said h) =
    subst (λ x. Continues e part x f) (sym is)
    (λ rest replies t' serves p k. next (h p k rest) said (serves [] none))
continues_on e f part r (faulty x used is s t u h) =
    subst (λ y. Continues e part y f) (sym is)
    (λ rest p k. subst (Served e.table (p ++ (part ++ rest)) (unread (refusal_of x) ∷ [])) (sym t) (broken_off (h p k rest)))

continues_failed : (e f : Desk) (part : List ℕ) (r : Turn) (x : Fault) → e.reader.status ≡ Err x → Continues e part r f
continues_failed e f part More x s = λ rest replies t serves. owes_nothing e x (part ++ rest) replies t s
continues_failed e f part (Answer used reply) x s = λ rest replies t serves. owes_nothing e x (part ++ rest) (reply ∷ replies) t s
continues_failed e f part (End reply) x s = λ rest. owes_nothing e x (part ++ rest) (reply ∷ []) f.table s

continues_as : (e f : Desk) (part : List ℕ) (r : Turn) (s : Result Event Fault) → e.reader.status ≡ s → TurnsAs s e part r f → Continues e part r f
continues_as e f part r (Ok v) is h = continues_on e f part r h
continues_as e f part r (Err x) is h = continues_failed e f part r x is

pub continues : (e f : Desk) (part : List ℕ) (r : Turn) → Turns e part r f → Continues e part r f
continues e f part r h = continues_as e f part r e.reader.status refl h

concludes_on : (e f : Desk) (r : Option Reply) → EndOn e r f → Concludes e r f
concludes_on e f r (between is t h) p k =
    subst (λ x. Served e.table (p ++ []) (option_to_list x) f.table) (sym is)
    (subst (λ x. Served e.table x [] f.table) (sym (append-nil p ∙ h p k)) (subst (Served e.table [] []) (sym t) over))
concludes_on e f r (last reply fields is said h) p k =
    subst (λ x. Served e.table (p ++ []) (option_to_list x) f.table) (sym is)
    (subst (λ x. Served e.table x (reply ∷ []) f.table) (sym (append-nil p)) (next (h p k) said over))
concludes_on e f r (cut_off x is s t h) p k =
    subst (λ y. Served e.table (p ++ []) (option_to_list y) f.table) (sym is)
    (subst (λ y. Served e.table y (unread (refusal_of x) ∷ []) f.table) (sym (append-nil p)) (subst (Served e.table p (unread (refusal_of x) ∷ [])) (sym t) (broken_off (h p k))))

concludes_as : (e f : Desk) (r : Option Reply) (s : Result Event Fault) → e.reader.status ≡ s → EndsAs s e r f → Concludes e r f
concludes_as e f r (Ok v) is h = concludes_on e f r h
concludes_as e f r (Err x) is h = owes_nothing e x [] (option_to_list r) f.table is

pub concludes : (e f : Desk) (r : Option Reply) → Ends e r f → Concludes e r f
concludes e f r h = concludes_as e f r e.reader.status refl h
