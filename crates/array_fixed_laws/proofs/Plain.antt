-- As long as its history keeps its shape, an array without a reshape keeps what one of one shape does: what a call leaves of that.
use Rattle.std.proofs.Common.{◌≡◌, ◌≢◌, inl, inr, ℕ, ◌+◌, ◌≤◌, ◌&&◌, ◌||◌, Bool, true, false, Option, Some, None, List, [], ◌∷◌, ◌++◌, length, refl, sym, ◌∙◌, ap, subst, arith}
use Rattle.std.specs.Prelude.{MatchOption, IfSome, IsTrue, ⊤}
use Rattle.std.specs.List.{list_any, All}
use Rattle.std.proofs.lemmas.List.{length-append}
use Rattle.std.proofs.lemmas.List.Elements.{All-nil, All-cons, All-head, All-tail}
use Rattle.std.proofs.lemmas.List.Folds.{list_any-append}
use Rattle.array_fixed_invariant.specs.raid_types_Shapes.{tolerance}
use Rattle.array_fixed_invariant.specs.raid_types_the_Who.{Who}
use Rattle.array_fixed_invariant.specs.raid_types_the_Shape.{Shape}
use Rattle.array_fixed_invariant.specs.bank_the_Operation.{Operation}
use Rattle.array_fixed_invariant.specs.bank_Given.{Given}
use Rattle.array_fixed_invariant.specs.sb_specs_the_Members.{Members}
use Rattle.array_fixed_invariant.specs.sb_specs_Reading.{Scope, Reading, is_reshaping, shape_of}
use Rattle.array_fixed_invariant.specs.history_the_Entry.{Entry}
use Rattle.array_fixed_invariant.specs.history_the_Epoch.{Epoch}
use Rattle.array_fixed_invariant.specs.history_the_Event.{Event}
use Rattle.array_fixed_invariant.specs.history_the_Event_TheVariants.{Resized, Step}
use Rattle.array_fixed_invariant.specs.history_the_StepKind_TheVariants.{Begun, TakenOver}
use Rattle.array_fixed_invariant.specs.history_Flat.{rest_of_call}
use Rattle.array_fixed_invariant.specs.history_OneShape.{ShapeOpening, opening_in, is_used_now, adds_slot, keeps_shape_event, KeepShape, GoesOnBehind, IsOfCall, IsCallOpen, IsOneShapeEvent, AreOneShape, IsOneShapeLegal}
use Rattle.array_fixed_invariant.specs.history_Plain.{entries_of}
use Rattle.array_fixed_invariant.specs.history_Sound.{FillsRight}
use Rattle.array_fixed_invariant.specs.history_World.{World, contents_at, reading_at}
use Rattle.array_fixed_invariant.proofs.history_OneShapeLegal.{opening-grown}
use Rattle.array_fixed_invariant.proofs.history_laws_OneShapeGrowing.{IsOneShapeCall}
use Rattle.array_fixed_invariant.specs.array_members_the_Work.{Work}
use Rattle.array_fixed_invariant.specs.array_members_Moving.{Grows}
use Rattle.array_fixed_invariant.proofs.history_append_StepLaws.{call-goes_on, used-more}
use Rattle.array_fixed_invariant.specs.array_call_specs_Kept.{scope_in, AreTold}
use Rattle.array_fixed_invariant.proofs.array_call_specs_LedgerLaws.{none-lost-before}
use Rattle.array_fixed_invariant.proofs.array_call_specs_OnlyLaws.{TellsOnly}
use Rattle.array_fixed_invariant.specs.history_invariant_Recorded.{IsCallGoing, MayGoOn}
use Rattle.array_fixed_invariant.specs.history_invariant_Safe.{world_in, IsReshapeFit, OpensOnCourse, IsFilledRight}
use Rattle.array_fixed_invariant.proofs.history_invariant_Growing.{reading-grown}
use Rattle.array_fixed_invariant.proofs.history_invariant_Tests.{neither, none-before, or-left, or-right}
use Rattle.array_fixed_laws.proofs.KeptShape.{filled-alike}
use Rattle.array_fixed_invariant.specs.Still.{IsStill}
use Rattle.array_fixed_invariant.proofs.Leaving.{fit-earlier}
use Rattle.array_specs.specs.Plans.{turns_shape, KeepsShape}
use Rattle.array_specs.proofs.Called.{not_254}
use Rattle.array_fixed_laws.specs.Plain.{AreToldPlainly, IsPlainKept, IsPlainEpoch}

-- ---- histories that keep their shape

-- fewer entries keep it too
pub keeps-first : (world : World) (entries added : List Entry) → KeepsShape world (entries ++ added) → KeepsShape world entries
keeps-first world entries added keeps = record { found = keeps.found; none = none-before (λ e. turns_shape e.event) entries added keeps.none }

-- and so it was before more was done
pub keeps-earlier : {tells : Type 0} {tape tape' : List Operation} {entries : List Entry} (given : Given) (scope : Scope) (first : ℕ) → Grows tells tape tape' → (tells → first ≤ length tape) → tells
    → KeepsShape (world_in given tape' scope first) entries → KeepsShape (world_in given tape scope first) entries
keeps-earlier {tape = tape} given scope first grows begun t keeps =
    let g = grows.more t in
    record {
      found = subst (λ (o : Option Reading). MatchOption o ⊤ (λ r. is_reshaping r.newest ≡ false))
          (ap (λ (l : List Operation). reading_at (world_in given l scope first) first) g.1 ∙ reading-grown (world_in given tape scope first) g.0 first (begun t)) keeps.found;
      none = keeps.none;
    }

one-keeps : (event : Event) → turns_shape event ≡ false → keeps_shape_event event ≡ true
one-keeps (Step Begun left) none = absurd (cc)
one-keeps (Step TakenOver left) none = absurd (cc)
one-keeps event none = refl

keep-shape : (entries : List Entry) → list_any (λ e. turns_shape e.event) entries ≡ false → KeepShape entries
keep-shape [] none = refl
keep-shape (e ∷ entries) none =
    let parts = neither (turns_shape e.event) (list_any (λ e. turns_shape e.event) entries) none in
    both (keeps_shape_event e.event) _ (one-keeps e.event parts.0) (keep-shape entries parts.1)
  where
    both : (a b : Bool) → a ≡ true → b ≡ true → (a && b) ≡ true
    both true b one other = other
    both false b one other = absurd (cc)

-- the opening found no reshape that could be off its course
on-course : (world : World) → MatchOption (reading_at world world.first) ⊤ (λ r. is_reshaping r.newest ≡ false) → OpensOnCourse world
on-course world found = by (reading_at world world.first) found
  where
    by : (o : Option Reading) → MatchOption o ⊤ (λ r. is_reshaping r.newest ≡ false) → IfSome o (λ r. IsTrue (is_reshaping r.newest) → IsReshapeFit world.scope (contents_at world world.first) r)
    by None is = tt
    by (Some r) is = λ active. absurd (let clash : true ≡ false = sym active ∙ is in cc)

-- what is filled in is right by the words that also serve a reshape
pub filled-right : (world : World) (entries : List Entry) → KeepsShape world entries → FillsRight world entries → IsFilledRight world entries
filled-right world entries keeps = filled-alike world entries (keep-shape entries keeps.none) (on-course world keeps.found)

-- ---- a call that goes on

one-goes : (opening : ShapeOpening) (before : List Entry) (e : Entry) (rest : List Entry) (event : Event) → IsOneShapeEvent opening before e rest event → MayGoOn event → GoesOnBehind event
one-goes opening before e rest (Resized n) one goes = absurd one
one-goes opening before e rest event one goes = goes

all-go : (opening : ShapeOpening) (ops : ℕ) (before entries : List Entry) → AreOneShape opening ops before entries → All (λ e. MayGoOn e.event → GoesOnBehind e.event) entries
all-go opening ops before [] are = All-nil (λ e. MayGoOn e.event → GoesOnBehind e.event)
all-go opening ops before (e ∷ entries) are =
    All-cons (λ e. MayGoOn e.event → GoesOnBehind e.event) e entries (one-goes opening before e (rest_of_call e entries) e.event are.0.event) (all-go opening ops (before ++ e ∷ []) entries are.1)

behind-all : (P : Entry → Type 0) (xs ys : List Entry) → All P (xs ++ ys) → All P ys
behind-all P [] ys all = all
behind-all P (x ∷ xs) ys all = behind-all P xs ys (All-tail P x (xs ++ ys) all)

all-open : (who : Who) (xs : List Entry) → All (λ e. IsOfCall who e × MayGoOn e.event) xs → All (λ e. MayGoOn e.event → GoesOnBehind e.event) xs → All (λ e. IsOfCall who e × GoesOnBehind e.event) xs
all-open who [] own goes = All-nil (λ e. IsOfCall who e × GoesOnBehind e.event)
all-open who (x ∷ xs) own goes =
    let first = All-head (λ e. IsOfCall who e × MayGoOn e.event) x xs own in
    All-cons (λ e. IsOfCall who e × GoesOnBehind e.event) x xs (first.0, All-head (λ e. MayGoOn e.event → GoesOnBehind e.event) x xs goes first.1)
    (all-open who xs (All-tail (λ e. IsOfCall who e × MayGoOn e.event) x xs own) (All-tail (λ e. MayGoOn e.event → GoesOnBehind e.event) x xs goes))

-- in a history of one shape it goes on as one of one shape: no length was told
open-of : (opening : ShapeOpening) (ops : ℕ) (entries : List Entry) (who : Who) → IsOneShapeLegal opening ops entries → IsCallGoing entries who → IsCallOpen entries who
open-of opening ops entries who legal goes = record {
  before = goes.before;
  call = goes.call;
  is = goes.is;
  own = all-open who goes.call goes.own
      (behind-all (λ e. MayGoOn e.event → GoesOnBehind e.event) goes.before goes.call (subst (λ (l : List Entry). All (λ e. MayGoOn e.event → GoesOnBehind e.event) l) goes.is (all-go opening ops [] entries legal)));
  number = goes.number;
}

-- ---- what a call leaves

-- The array that it leaves keeps what one of one shape does, as long as its history keeps its shape; and where nothing told turns the shape, the call tells no refusal of a reshape.
pub record IsLeftPlain (tells : Type 0) (given : Given) (tape : List Operation) (scope : Scope) (first : ℕ) (entries added : List Entry) (members : Members) : Type 0 where
  pub plain : tells → KeepsShape (world_in given tape scope first) (entries ++ added) → IsPlainKept (world_in given tape scope first) members (entries ++ added)
  pub plainly : list_any (λ e. turns_shape e.event) (entries ++ added) ≡ false → AreToldPlainly added

-- behind what turned the shape there is nothing to keep of that
pub turned-plain : {tells : Type 0} {given : Given} {tape : List Operation} {scope : Scope} {first : ℕ} {entries added : List Entry} {members : Members} → list_any (λ e. turns_shape e.event) (entries ++ added) ≡ true
    → IsLeftPlain tells given tape scope first entries added members
turned-plain told = record {
  plain = λ t keeps. absurd (let clash : true ≡ false = sym told ∙ keeps.none in cc);
  plainly = λ none. absurd (let clash : true ≡ false = sym told ∙ none in cc);
}

-- entries that turn it do so before others, and behind them
pub turns-first : (entries added : List Entry) → list_any (λ e. turns_shape e.event) entries ≡ true → list_any (λ e. turns_shape e.event) (entries ++ added) ≡ true
turns-first entries added told =
    list_any-append (λ e. turns_shape e.event) entries added ∙ or-left (list_any (λ e. turns_shape e.event) entries) (list_any (λ e. turns_shape e.event) added) told

pub turns-behind : (entries added : List Entry) → list_any (λ e. turns_shape e.event) added ≡ true → list_any (λ e. turns_shape e.event) (entries ++ added) ≡ true
turns-behind entries added told =
    list_any-append (λ e. turns_shape e.event) entries added ∙ or-right (list_any (λ e. turns_shape e.event) entries) (list_any (λ e. turns_shape e.event) added) told

-- a slot that more entries tell added is used behind them
used-added : (opening : ShapeOpening) (entries added : List Entry) (slot : ℕ) → IsTrue (list_any (λ e. adds_slot slot e.event) added) → IsTrue (is_used_now opening (entries ++ added) slot)
used-added opening entries added slot told =
    ap (λ (b : Bool). opening.used slot || b) (list_any-append (λ e. adds_slot slot e.event) entries added)
    ∙ last (opening.used slot) (list_any (λ e. adds_slot slot e.event) entries) (list_any (λ e. adds_slot slot e.event) added) told
  where
    last : (a b c : Bool) → c ≡ true → (a || (b || c)) ≡ true
    last true b c is = refl
    last false true c is = refl
    last false false c is = is

-- By what it tells of the members that it leaves, and of its own events.
pub plain-called : {tells : Type 0} {given : Given} {tape tape' : List Operation} {scope : Scope} {first : ℕ} {entries : List Entry} {old new : Members} {work : Work} {left : ℕ}
    → IsStill tells given tape scope first entries old work left → (tells → KeepsShape (world_in given tape scope first) entries → IsPlainKept (world_in given tape scope first) old entries)
    → (who : Who) (end : ℕ) (events : List Event) → IsCallGoing entries who → who.caller ≢ 254 → (tells → end ≡ length tape') → Grows tells tape tape' → shape_of new.newest ≡ shape_of old.newest
    → (tells → IsPlainKept (world_in given tape scope first) old entries → AreTold new (entries ++ entries_of who end events))
    → (tells → IsPlainKept (world_in given tape scope first) old entries → TellsOnly old new entries (entries_of who end events))
    → (tells → KeepsShape (world_in given tape scope first) (entries ++ entries_of who end events) → IsPlainKept (world_in given tape scope first) old entries
    → FillsRight (world_in given tape scope first) (entries ++ entries_of who end events) → IsOneShapeCall (opening_in (world_in given tape scope first)) entries who end events)
    → AreToldPlainly (entries_of who end events)
    → IsLeftPlain tells given tape' scope first entries (entries_of who end events) new
plain-called {tells = tells} {given = given} {tape = tape} {tape' = tape'} {scope = scope} {first = first} {entries = entries} {old = old} {new = new} kept was who end events goes caller at_end grows shape told only call plainly =
    record { plain = left; plainly = λ none. plainly }
  where
    world : World
    world = world_in given tape scope first

    added : List Entry
    added = entries_of who end events

    begun : tells → first ≤ length tape
    begun t = (kept.recorded t).begun

    same : tells → opening_in (world_in given tape' scope first) ≡ opening_in (world_in given tape scope first)
    same t = let g = grows.more t in ap (λ (l : List Operation). opening_in (world_in given l scope first)) g.1 ∙ opening-grown (world_in given tape scope first) g.0 (begun t)

    longer : tells → length tape ≤ end
    longer t =
        let g = grows.more t in
        let long : length tape' ≡ length tape + length g.0 = ap (λ (l : List Operation). length l) g.1 ∙ length-append tape g.0 in
        let at = at_end t in
        omega (arith, long, at)

    fills-here : tells → FillsRight (world_in given tape' scope first) (entries ++ added) → FillsRight (world_in given tape scope first) (entries ++ added)
    fills-here t (inl none) = inl none
    fills-here t (inr fit) = inr (fit-earlier given scope first grows begun t fit)

    fills-before : FillsRight (world_in given tape scope first) (entries ++ added) → FillsRight (world_in given tape scope first) entries
    fills-before (inl none) = inl (none-lost-before entries added none)
    fills-before (inr fit) = inr fit

    left : tells → KeepsShape (world_in given tape' scope first) (entries ++ added) → IsPlainKept (world_in given tape' scope first) new (entries ++ added)
    left t keeps =
        let here = keeps-earlier given scope first grows begun t keeps in
        let p = was t (keeps-first world entries added here) in
        let tells-only = only t p in
        record {
          told = told t p;
          only = tells-only.only;
          used = λ role slot may. subst (λ (o : ShapeOpening). IsTrue (is_used_now o (entries ++ added) slot)) (sym (same t)) (elim (tells-only.held role slot may) [
            | inl before ↦ used-more (opening_in world) entries added slot (p.used before.0 slot before.1)
            | inr told ↦ used-added (opening_in world) entries added slot told
          ]);
          disks = ap (λ (o : ShapeOpening). o.disks) (same t) ∙ p.disks ∙ ap (λ (s : Shape). s.disks) (sym shape);
          tolerated = ap (λ (o : ShapeOpening). o.tolerance) (same t) ∙ p.tolerated ∙ ap (λ (s : Shape). tolerance s) (sym shape);
          legal = λ fills.
              let right = fills-here t fills in
              let legal = p.legal (fills-before right) in
              let ended = (kept.recorded t).ended in
              let le = longer t in
              subst (λ (o : ShapeOpening). IsOneShapeLegal o (length tape') (entries ++ added)) (sym (same t))
              (subst (λ (n : ℕ). IsOneShapeLegal (opening_in world) n (entries ++ added)) (at_end t)
              (call-goes_on (opening_in world) (length tape) end entries who events legal le (omega (arith, ended, le)) (open-of (opening_in world) (length tape) entries who legal goes) (not_254 who.caller caller)
              (call t here p right)));
        }

-- ---- an epoch that is handed out

pub plain-epoch : (given : Given) (tape : List Operation) (backup : Option ℕ) (epoch : Epoch) (members : Members) → IsPlainKept (world_in given tape (scope_in given epoch.uuid epoch.given backup) epoch.first) members epoch.entries.items
    → AreToldPlainly epoch.entries.items → IsPlainEpoch given tape backup epoch
plain-epoch given tape backup epoch members kept plainly = record { legal = kept.legal; plainly = plainly }
