-- The reply of a write fits its request, also behind a window that it finished first.
use Rattle.std.proofs.Common.{◌≡◌, inl, inr, ℕ, ◌+◌, ◌<◌, ◌≤◌, Bool, true, false, Option, Result, Ok, Err, List, [], ◌∷◌, ◌++◌, length, refl, sym, ◌∙◌, ap, subst, append_assoc, append-nil}
use Rattle.std.specs.Prelude.{fold, reverse}
use Rattle.std.specs.List.{All}
use Rattle.std.proofs.lemmas.List.{reverse-append}
use Rattle.std.proofs.lemmas.List.Elements.{All-nil, All-cons, All-append}
use Rattle.std.proofs.lemmas.List.Sums.{fold-append}
use Rattle.array_fixed_laws.specs.raid_types_Sectors.{Sector}
use Rattle.array_fixed_laws.specs.raid_types_the_Fault.{Fault as AnyFault}
use Rattle.array_fixed_laws.specs.raid_types_the_Fault_TheVariants.{Refused as IsRefusedWith, NoMemory}
use Rattle.array_fixed_laws.specs.raid_types_the_Refusal.{Refusal}
use Rattle.array_fixed_laws.specs.raid_types_the_Refusal_TheVariants.{PastEnd}
use Rattle.array_fixed_laws.specs.raid_types_the_Who.{Who}
use Rattle.array_reshaping_resync_laws.specs.sb_specs_the_Members.{Members}
use Rattle.array_reshaping_resync_laws.specs.history_the_Entry.{Entry}
use Rattle.array_reshaping_resync_laws.specs.history_the_Event.{Event}
use Rattle.array_reshaping_resync_laws.specs.history_the_Event_TheVariants.{Lost, SpareLost, Step, Wrote, Torn, Refused}
use Rattle.array_reshaping_resync_laws.specs.history_the_LostCause_TheVariants.{Fault}
use Rattle.array_reshaping_resync_laws.specs.history_the_Request.{Request}
use Rattle.array_reshaping_resync_laws.specs.history_the_Request_TheVariants.{Write as AsksWrite}
use Rattle.array_reshaping_resync_laws.specs.history_the_StepKind_TheVariants.{WindowFinished as FinishesWindow}
use Rattle.array_reshaping_resync_laws.specs.history_Fits.{AreTornOf, IsTornOf}
use Rattle.array_reshaping_resync_laws.specs.history_Flat.{rest_of_call, next_number, length_of, limit_of, length_after, limit_after, visible_of}
use Rattle.array_reshaping_resync_laws.specs.history_OneShape.{IsOfCall, OneShapeAnswers}
use Rattle.array_reshaping_resync_laws.specs.history_Plain.{entries_of}
use Rattle.array_reshaping_resync_laws.specs.history_append_Losing.{losses_of, failure_events}
use Rattle.array_reshaping_resync_laws.proofs.history_append_CallLaws.{AreLossEvents, losses-are, length-losses, limit-losses, torn-losses, torn-both, torn-reverse}
use Rattle.array_reshaping_resync_laws.proofs.history_append_LosingLaws.{entries-both}
use Rattle.array_fixed_laws.specs.array_call_specs_Calls.{StandsInside, IsRefusedFor, IsCausedBy}
use Rattle.array_fixed_laws.proofs.array_call_specs_NowLaws.{length-more}
use Rattle.array_fixed_laws.proofs.array_call_specs_ReplyLaws.{IsOfMissing, none_before, too-many-of, torn_before}
use Rattle.array_reshaping_resync_laws.specs.reshape_request_the_Window.{Window}
use Rattle.array_reshaping_resync_laws.specs.history_invariant_Recorded.{entry_of}
use Rattle.array_fixed_laws.specs.array_reshaping_state_Due.{open_in}
use Rattle.array_reshaping_laws.specs.Writing.{IsWriteLacked, IsFinishedFirst, IsWriteEntered, IsRepliedBehind, IsWriteAnswered}
use Rattle.array_fixed_laws.specs.array_reshaping_state_Left.{visible_by}
use Rattle.array_fixed_laws.proofs.array_specs_VisibleLaws.{visible-is, limit-kept}
use Rattle.array_fixed_laws.proofs.array_specs_Replies.{write_kind}
use Rattle.array_reshaping_laws.proofs.WriteLaws.{torn-missing}

-- ---- the entries of a call before its reply

-- they may stand there, what is torn is the request's, and the length of the list and what is visible of it stay
record IsInner (who : Who) (request : Request) (call : List Entry) : Type 0 where
  own : All (λ e. IsOfCall who e × StandsInside e.event) call
  torn : AreTornOf request call
  long : (n : ℕ) → fold (λ m e. length_after m e.event) n call ≡ n
  free : (limit : Option ℕ) → fold (λ (limit : Option ℕ) e. limit_after limit e.event) limit call ≡ limit

none-inner : (who : Who) (request : Request) → IsInner who request []
none-inner who request = record { own = All-nil (λ e. IsOfCall who e × StandsInside e.event); torn = tt; long = λ n. refl; free = λ limit. refl }

one-inner : (who : Who) (request : Request) (end : ℕ) (event : Event) → StandsInside event → IsTornOf request event → ((n : ℕ) → length_after n event ≡ n) → ((limit : Option ℕ) → limit_after limit event ≡ limit)
    → IsInner who request (entry_of who end event ∷ [])
one-inner who request end event inside torn long free = record {
  own = All-cons (λ e. IsOfCall who e × StandsInside e.event) (entry_of who end event) [] ((refl, refl), inside) (All-nil (λ e. IsOfCall who e × StandsInside e.event));
  torn = (torn, tt);
  long = long;
  free = free;
}

both-inner : (who : Who) (request : Request) (xs ys : List Entry) → IsInner who request xs → IsInner who request ys → IsInner who request (xs ++ ys)
both-inner who request xs ys one two = record {
  own = All-append (λ e. IsOfCall who e × StandsInside e.event) xs ys one.own two.own;
  torn = torn-both request xs ys one.torn two.torn;
  long = λ n. fold-append (λ m e. length_after m e.event) n xs ys ∙ ap (λ (m : ℕ). fold (λ m e. length_after m e.event) m ys) (one.long n) ∙ two.long n;
  free = λ limit. fold-append (λ (limit : Option ℕ) e. limit_after limit e.event) limit xs ys ∙ ap (λ (o : Option ℕ). fold (λ (limit : Option ℕ) e. limit_after limit e.event) o ys) (one.free limit) ∙ two.free limit;
}

own-losses : (who : Who) (end : ℕ) (xs : List Event) → AreLossEvents xs → All (λ e. IsOfCall who e × StandsInside e.event) (entries_of who end xs)
own-losses who end [] are = All-nil (λ e. IsOfCall who e × StandsInside e.event)
own-losses who end (Lost role Fault ∷ xs) are =
    All-cons (λ e. IsOfCall who e × StandsInside e.event) (entry_of who end (Lost role Fault)) (entries_of who end xs) ((refl, refl), tt) (own-losses who end xs are)
own-losses who end (SpareLost slot ∷ xs) are =
    All-cons (λ e. IsOfCall who e × StandsInside e.event) (entry_of who end (SpareLost slot)) (entries_of who end xs) ((refl, refl), tt) (own-losses who end xs are)
own-losses who end (event ∷ xs) are = absurd are

losses-inner : (who : Who) (request : Request) (end roles spares : ℕ) → IsInner who request (entries_of who end (losses_of roles spares))
losses-inner who request end roles spares = record {
  own = own-losses who end (losses_of roles spares) (losses-are roles spares);
  torn = torn-losses request who end (losses_of roles spares) (losses-are roles spares);
  long = λ n. subst (λ (l : List Event). fold (λ m e. length_after m e.event) n (entries_of who end l) ≡ n) (append-nil (losses_of roles spares))
      (length-losses who end (losses_of roles spares) [] (losses-are roles spares) n);
  free = λ limit. subst (λ (l : List Event). fold (λ (limit : Option ℕ) e. limit_after limit e.event) limit (entries_of who end l) ≡ limit) (append-nil (losses_of roles spares))
      (limit-losses who end (losses_of roles spares) [] (losses-are roles spares) limit);
}

-- losses, and an event behind them
behind-inner : (who : Who) (request : Request) (end roles spares : ℕ) (event : Event) → StandsInside event → IsTornOf request event → ((n : ℕ) → length_after n event ≡ n) → ((limit : Option ℕ) → limit_after limit event ≡ limit)
    → IsInner who request (entries_of who end (losses_of roles spares ++ event ∷ []))
behind-inner who request end roles spares event inside torn long free =
    subst (IsInner who request) (sym (entries-both who end (losses_of roles spares) (event ∷ [])))
    (both-inner who request (entries_of who end (losses_of roles spares)) (entry_of who end event ∷ []) (losses-inner who request end roles spares) (one-inner who request end event inside torn long free))

-- ---- a reply behind them

module _ (size : ℕ) (limit : Option ℕ) (request : Request) (who : Who) (old : List Entry) (number : who.number ≡ next_number who.caller old) (sized : length_of size old ≡ size) (limited : limit_of old ≡ limit) where
  as-visible : (call : List Entry) → IsInner who request call → visible_of size (old ++ call) ≡ visible_by size limit
  as-visible call inner = visible-is size size limit (old ++ call) (length-more size old call sized (inner.long size)) (limit-kept limit old call limited (inner.free limit))

  replied-behind : (new call : List Entry) (end : ℕ) (event : Event) → IsInner who request call → new ≡ old ++ (call ++ entry_of who end event ∷ [])
      → ((before : List Entry) → OneShapeAnswers size (old ++ call) before request event) → IsRepliedBehind size request who old new event
  replied-behind new call end event inner is answers = record {
    call = call;
    end = end;
    own = inner.own;
    is = is;
    fits = record {
      answers = answers _;
      torn = subst (λ (l : List Entry). AreTornOf request (rest_of_call (entry_of who end event) l)) (sym (reverse-append old call))
          (torn_before request (entry_of who end event) (reverse call) (reverse old) (none_before old who end event number) (torn-reverse request call inner.torn));
    };
  }

-- what stands behind two stretches of entries
behind-two : (old pre mid new xs : List Entry) (e : Entry) → mid ≡ old ++ pre → new ≡ mid ++ (xs ++ e ∷ []) → new ≡ old ++ ((pre ++ xs) ++ e ∷ [])
behind-two old pre mid new xs e one two =
    two ∙ ap (λ (l : List Entry). l ++ (xs ++ e ∷ [])) one ∙ append_assoc old pre (xs ++ e ∷ []) ∙ ap (λ (l : List Entry). old ++ l) (sym (append_assoc pre xs (e ∷ [])))

-- what may stand before the entries of the write itself: those of the window that it finished
record IsBefore (who : Who) (request : Request) (old mid : List Entry) : Type 0 where
  pre : List Entry
  is : mid ≡ old ++ pre
  inner : IsInner who request pre

nothing-before : (who : Who) (request : Request) (old mid : List Entry) → mid ≡ old → IsBefore who request old mid
nothing-before who request old mid is = record { pre = []; is = is ∙ sym (append-nil old); inner = none-inner who request }

finished-before : (window : Window) (at to : ℕ) (body : List Sector) (who : Who) (old mid : List Entry) (left : ℕ) → IsFinishedFirst window at to who old mid left → IsBefore who (AsksWrite at body) old mid
finished-before window at to body who old mid left (inl (touches, behind)) = record {
  pre = entries_of who behind.end (losses_of behind.roles behind.spares ++ Step FinishesWindow left ∷ []);
  is = behind.is;
  inner = behind-inner who (AsksWrite at body) behind.end behind.roles behind.spares (Step FinishesWindow left) tt tt (λ n. refl) (λ limit. refl);
}
finished-before window at to body who old mid left (inr (none, is)) = nothing-before who (AsksWrite at body) old mid is

-- ---- the write

pub lacked-missing : (window : Window) (relied from to : ℕ) (m : Members) (refusal : Refusal) → IsWriteLacked window relied from to m refusal → IsOfMissing refusal
lacked-missing window relied from to m refusal (inl unwritten) = torn-missing (open_in window) relied from to m refusal unwritten
lacked-missing window relied from to m refusal (inr (touches, many)) = too-many-of m refusal many

module _ (window : Window) (size : ℕ) (limit : Option ℕ) (relied at to : ℕ) (body : List Sector) (who : Who) (old new : List Entry) (m m' : Members) (left : ℕ) (end-is : to ≡ at + length body)
    (number : who.number ≡ next_number who.caller old) (sized : length_of size old ≡ size) (limited : limit_of old ≡ limit) where
  -- why it is refused fits
  refused-fits : (refusal : Refusal) → IsRefusedFor (visible_by size limit) to (IsWriteLacked window relied at to) m m' refusal → (call : List Entry) → IsInner who (AsksWrite at body) call
      → (before : List Entry) → OneShapeAnswers size (old ++ call) before (AsksWrite at body) (Refused refusal)
  refused-fits (PastEnd told) why call inner =
      (write_kind at body).past size (visible_by size limit) told (old ++ call) (as-visible size limit (AsksWrite at body) who old number sized limited call inner) (subst (λ (n : ℕ). visible_by size limit < n) end-is why.1)
  refused-fits refusal why call inner = (write_kind at body).missing size (visible_by size limit) refusal (old ++ call) (as-visible size limit (AsksWrite at body) who old number sized limited call inner)
      (subst (λ (n : ℕ). n ≤ visible_by size limit) end-is why.0) (lacked-missing window relied at to m' refusal why.1)

  -- behind the losses of the write
  tail-losses : (mid : List Entry) → IsBefore who (AsksWrite at body) old mid → (end roles spares : ℕ) (event : Event) → new ≡ mid ++ entries_of who end (losses_of roles spares ++ event ∷ [])
      → ((call : List Entry) → IsInner who (AsksWrite at body) call → (before : List Entry) → OneShapeAnswers size (old ++ call) before (AsksWrite at body) event)
      → IsRepliedBehind size (AsksWrite at body) who old new event
  tail-losses mid first end roles spares event is answers =
      let xs = entries_of who end (losses_of roles spares) in
      let inner = both-inner who (AsksWrite at body) first.pre xs first.inner (losses-inner who (AsksWrite at body) end roles spares) in
      replied-behind size limit (AsksWrite at body) who old number sized limited new (first.pre ++ xs) end event inner
      (behind-two old first.pre mid new xs (entry_of who end event) first.is (is ∙ ap (λ (l : List Entry). mid ++ l) (entries-both who end (losses_of roles spares) (event ∷ []))))
      (answers (first.pre ++ xs) inner)

  -- and behind what it tore
  tail-torn : (mid : List Entry) → IsBefore who (AsksWrite at body) old mid → (end roles spares : ℕ) (torn : Bool) (refusal : Refusal) → new ≡ mid ++ entries_of who end (failure_events roles spares torn at body refusal)
      → IsRefusedFor (visible_by size limit) to (IsWriteLacked window relied at to) m m' refusal → IsRepliedBehind size (AsksWrite at body) who old new (Refused refusal)
  tail-torn mid first end roles spares false refusal is why = tail-losses mid first end roles spares (Refused refusal) is (refused-fits refusal why)
  tail-torn mid first end roles spares true refusal is why =
      let xs = entries_of who end (losses_of roles spares ++ Torn at body ∷ []) in
      let inner = both-inner who (AsksWrite at body) first.pre xs first.inner (behind-inner who (AsksWrite at body) end roles spares (Torn at body) tt (refl, refl) (λ n. refl) (λ limit. refl)) in
      replied-behind size limit (AsksWrite at body) who old number sized limited new (first.pre ++ xs) end (Refused refusal) inner
      (behind-two old first.pre mid new xs (entry_of who end (Refused refusal)) first.is
      (is ∙ ap (λ (l : List Entry). mid ++ l) (entries-both who end (losses_of roles spares ++ Torn at body ∷ []) (Refused refusal ∷ []))))
      (refused-fits refusal why (first.pre ++ xs) inner)

  pub write-answered : {T : Type 0} (result : Result T AnyFault) → IsWriteEntered window at to body who old new left result → IsCausedBy (visible_by size limit) to (IsWriteLacked window relied at to) m m' result
      → IsWriteAnswered size at body who old new result
  write-answered (Ok x) (mid, first, behind) caused = tail-losses mid (finished-before window at to body who old mid left first) behind.end behind.roles behind.spares (Wrote at body) behind.is (λ call inner before. (refl, refl))
  write-answered (Err (IsRefusedWith refusal)) (mid, first, roles, spares, torn, end, is) caused =
      tail-torn mid (elim first [ inl finished ↦ finished-before window at to body who old mid left finished | inr same ↦ nothing-before who (AsksWrite at body) old mid same ]) end roles spares torn refusal is caused
  write-answered (Err NoMemory) told caused = told
