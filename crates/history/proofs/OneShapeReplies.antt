-- Replies of an array that keeps its shape fit their requests.
use Rattle.std.proofs.Common.{◌≡◌, ℕ, ◌+◌, inl, inr, Bool, true, false, nat_lt, List, [], ◌∷◌, length, refl, sym, ap, ◌∙◌, subst, subst₂, MatchBool, Option, Some, None}
use Rattle.std.specs.Prelude.{◌||◌, IfSome, ⊤}
use Rattle.std.specs.List.{list_any}
use Rattle.raid_types.specs.Shapes.{tolerance}
use Rattle.sb_read_laws.specs.sb_specs_Reading.{Reading}
use Rattle.raid_types.specs.declared.answers.Refusal.{Refusal}
use Rattle.raid_types.specs.declared.answers.Refusal.TheVariants.{TooManyMissing, NotResynced, BackupFault, NoSuchRole, NoSuchSlot, SlotTaken, SlotTooSmall, SlotFault, Nothing}
use Rattle.history.specs.declared.events.Entry.{Entry}
use Rattle.history.specs.declared.events.Event.{Event}
use Rattle.history.specs.declared.events.Event.TheVariants.{Read, Wrote, Flushed, Lost, Added, Failed, Stepped, Refused}
use Rattle.history.specs.declared.events.Request.{Request}
use Rattle.history.specs.declared.events.Request.TheVariants.{Read as AsksRead, Write as AsksWrite, Flush as AsksFlush, Fail as AsksFail, Add as AsksAdd, Steps as AsksSteps}
use Rattle.history.specs.World.{World, until, reading_at, opening_list}
use Rattle.history.specs.Flat.{visible_of}
use Rattle.history.specs.Transfers.{IsRefusedAt, IsPastEnd}
use Rattle.history.specs.Legal.{call_before}
use Rattle.history.specs.Fits.{is_asked, WhereAsked, IsIdle, IsNoRole, IsAddRefused, is_lost_event, may_cut_short, DidSteps, EndsSteps, IsReadRefused, IsWriteRefused, Answers}
use Rattle.history.specs.OneShape.{DidOneShapeSteps, EndsIdleSteps, OneShapeAnswers, IsAddRight, OneShapeRepliesFit}
use Rattle.history.proofs.OneShapeLegal.{list-until}

-- what a read may be refused with, a write may
written : (refusal : Refusal) → IsReadRefused refusal → IsWriteRefused refusal
written BackupFault listed = absurd listed
written refusal listed = listed

refused-write : (visible to : ℕ) (refusal : Refusal) → IsRefusedAt visible to IsReadRefused refusal → IsRefusedAt visible to IsWriteRefused refusal
refused-write visible to refusal is = by (nat_lt visible to) is
  where
    by : (b : Bool) → MatchBool b (IsPastEnd refusal) (IsReadRefused refusal × ¬ IsPastEnd refusal) → MatchBool b (IsPastEnd refusal) (IsWriteRefused refusal × ¬ IsPastEnd refusal)
    by true is = is
    by false is = (written refusal is.0, is.1)

module _ (world : World) (size : ℕ) (before : List Entry) (e : Entry) (same : size ≡ length (opening_list world)) where
  -- the visible size is that of the bank's list
  over-bank : (to : ℕ) (Listed : Refusal → Type 0) (refusal : Refusal) → IsRefusedAt (visible_of size before) to Listed refusal
      → IsRefusedAt (visible_of (length (opening_list world)) before) to Listed refusal
  over-bank to Listed refusal is = subst (λ n. IsRefusedAt (visible_of n before) to Listed refusal) same is

  loss-cuts : (event : Event) → is_lost_event event ≡ true → may_cut_short world before event ≡ true
  loss-cuts (Lost role cause) is = refl
  loss-cuts event is = absurd (cc)

  -- a loss may end a request for steps early
  cut-short : (call : List Entry) → list_any (λ e. is_lost_event e.event) call ≡ true → list_any (λ e. may_cut_short world before e.event) call ≡ true
  cut-short [] lost = absurd (cc)
  cut-short (x ∷ call) lost = by (is_lost_event x.event) (may_cut_short world before x.event) (loss-cuts x.event) (cut-short call) lost
    where
      by : (lost cuts : Bool) → (lost ≡ true → cuts ≡ true) → (list_any (λ e. is_lost_event e.event) call ≡ true → list_any (λ e. may_cut_short world before e.event) call ≡ true)
          → (lost || list_any (λ e. is_lost_event e.event) call) ≡ true → (cuts || list_any (λ e. may_cut_short world before e.event) call) ≡ true
      by true cuts here later is = ap (λ b. b || list_any (λ e. may_cut_short world before e.event) call) (here refl)
      by false true here later is = refl
      by false false here later is = later is

  did-steps : (most done left : ℕ) (ended : Option Refusal) → DidOneShapeSteps (call_before before e) most done left ended → DidSteps world before (call_before before e) most done left ended
  did-steps most done left ended did = record {
    at_most = did.at_most;
    all_done = elim did.all_done [
      | inl all ↦ inl all
      | inr (inl none) ↦ inr (inl none)
      | inr (inr (inl refused)) ↦ inr (inr (inl refused))
      | inr (inr (inr lost)) ↦ inr (inr (inr (cut-short (call_before before e) lost)))
    ];
    some_done = did.some_done;
    counted = did.counted;
    not_more = did.not_more;
  }

  ended-steps : (ended : Option Refusal) → IfSome ended EndsIdleSteps → IfSome ended (EndsSteps world before e.end)
  ended-steps None is = tt
  ended-steps (Some (TooManyMissing count tolerance)) is = tt
  ended-steps (Some (NotResynced role)) is = tt
  ended-steps (Some refusal) is = absurd is

  answers-fit : (request : Request) (event : Event) → ((role : ℕ) → event ≡ Refused (NoSuchRole role) → WhereAsked world before e.end (IsNoRole role))
      → (event ≡ Refused Nothing → WhereAsked world before e.end (IsIdle world before))
      → ((slot : ℕ) (refusal : Refusal) → request ≡ AsksAdd slot → event ≡ Refused refusal → IsAddRefused world before e.end slot refusal)
      → OneShapeAnswers size before (call_before before e) request event → Answers world before e request event
  answers-fit (AsksRead at count) (Read a body) none idle add is = is
  answers-fit (AsksRead at count) (Refused refusal) none idle add is = over-bank (at + count) IsReadRefused refusal is
  answers-fit (AsksWrite at body) (Wrote a b) none idle add is = is
  answers-fit (AsksWrite at body) (Refused refusal) none idle add is = over-bank (at + length body) IsWriteRefused refusal (refused-write (visible_of size before) (at + length body) refusal is)
  answers-fit AsksFlush Flushed none idle add is = tt
  answers-fit AsksFlush (Refused (TooManyMissing count tolerance)) none idle add is = tt
  answers-fit (AsksFail role) (Failed failed) none idle add is = is
  answers-fit (AsksFail role) (Refused (NoSuchRole asked)) none idle add is = (is, subst (λ r. WhereAsked world before e.end (IsNoRole r)) is (none asked refl))
  answers-fit (AsksAdd slot) (Added added) none idle add is = is
  answers-fit (AsksAdd slot) (Refused refusal) none idle add is = add slot refusal refl refl
  answers-fit (AsksSteps most) (Stepped done left ended) none idle add is = (did-steps most done left ended is.0, ended-steps ended is.1)
  answers-fit (AsksSteps most) (Refused Nothing) none idle add is = idle refl
  answers-fit request event none idle add is = absurd is

-- what an entry tells of a slot that isn't added
add-refused : (world : World) (size : ℕ) (before : List Entry) (e : Entry) (slot : ℕ) (refusal : Refusal) → IsAddRight world before e slot → e.event ≡ Refused refusal
    → OneShapeAnswers size before (call_before before e) (AsksAdd slot) (Refused refusal) → IsAddRefused (until e.end world) before e.end slot refusal
add-refused world size before e slot (NoSuchSlot asked) right is answers = (answers, right.none (is ∙ ap (λ s. Refused (NoSuchSlot s)) answers))
add-refused world size before e slot (SlotTaken taken) right is answers = (answers, right.taken (is ∙ ap (λ s. Refused (SlotTaken s)) answers))
add-refused world size before e slot (SlotTooSmall have want) right is answers = ((right.small have want is).0, answers, (right.small have want is).1)
add-refused world size before e slot (SlotFault failed) right is answers = answers
add-refused world size before e slot (TooManyMissing count tolerance) right is answers = tt
add-refused world size before e slot refusal right is answers = absurd answers

pub one_shape-fit : OneShapeRepliesFit
one_shape-fit world size before e request same late none idle add fits = record {
  answers = answers-fit (until e.end world) size before e (same ∙ ap length (sym (list-until world e.end late))) request e.event none idle
      (λ slot refusal asks is. add-refused world size before e slot refusal (add slot asks) is (subst₂ (OneShapeAnswers size before (call_before before e)) asks is fits.answers)) fits.answers;
  torn = fits.torn;
}

-- ---- what is asked of the superblocks

-- a fact on what they say at an end is one where no device has failed and the losses are tolerated
pub where-asked : (world : World) (before : List Entry) (end : ℕ) (Fact : Reading → Type 0)
    → ((r : Reading) → reading_at world end ≡ Some r → is_asked world before r ≡ true → Fact r) → WhereAsked world before end Fact
where-asked world before end Fact each = by (reading_at world end) refl
  where
    asked : (r : Reading) (b : Bool) → is_asked world before r ≡ b → (is_asked world before r ≡ true → Fact r) → MatchBool b (Fact r) ⊤
    asked r true is fact = fact is
    asked r false is fact = tt

    by : (found : Option Reading) → reading_at world end ≡ found → IfSome found (λ r. MatchBool (is_asked world before r) (Fact r) ⊤)
    by None is = tt
    by (Some r) is = asked r (is_asked world before r) refl (each r is)
