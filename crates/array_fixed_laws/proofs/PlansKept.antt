-- What calls leave of the plans that are open: those that enter none keep where they go, and a reshape that begins or ends does too.
use Rattle.std.proofs.Common.{◌≡◌, ◌⊎◌, inl, inr, ℕ, ◌≤◌, ◌||◌, Bool, true, false, cond, Some, Result, Ok, Err, List, [], ◌∷◌, ◌++◌, length, fold, refl, sym, ◌∙◌, ap, subst, append-nil}
use Rattle.std.specs.Prelude.{if◌then◌else◌}
use Rattle.std.specs.List.{list_any, All}
use Rattle.std.proofs.lemmas.List.Elements.{All-nil, All-cons, All-head, All-tail}
use Rattle.std.proofs.lemmas.List.Folds.{list_any-append}
use Rattle.std.proofs.lemmas.List.Sums.{fold-append}
use Rattle.array_specs.specs.raid_types_the_Fault.{Fault}
use Rattle.array_specs.specs.raid_types_the_Fault_TheVariants.{Refused as IsRefusedWith, NoMemory}
use Rattle.array_fixed_invariant.specs.raid_types_the_Who.{Who}
use Rattle.array_fixed_invariant.specs.raid_types_the_Shape.{Shape}
use Rattle.array_specs.specs.raid_types_the_Phase.{Phase}
use Rattle.array_fixed_invariant.specs.raid_types_the_Phase_TheVariants.{Reshape}
use Rattle.array_fixed_invariant.specs.bank_the_Operation.{Operation}
use Rattle.array_fixed_invariant.specs.bank_Given.{Given}
use Rattle.array_fixed_invariant.specs.reshape_plan_Plans.{last_shape}
use Rattle.array_fixed_invariant.specs.sb_specs_Reading.{is_reshaping, shape_of, final_shape}
use Rattle.array_fixed_invariant.specs.history_the_Entry.{Entry}
use Rattle.array_fixed_invariant.specs.history_the_Event.{Event}
use Rattle.array_fixed_invariant.specs.history_the_Event_TheVariants.{Planned, Step, Lost, SpareLost, Refused}
use Rattle.array_fixed_invariant.specs.history_the_LostCause_TheVariants.{Fault as ByFault}
use Rattle.array_fixed_invariant.specs.history_the_Request.{Request}
use Rattle.array_fixed_invariant.specs.history_the_StepKind.{StepKind}
use Rattle.array_fixed_invariant.specs.history_Growing.{grown, EndBy}
use Rattle.array_fixed_invariant.specs.history_Plain.{entries_of}
use Rattle.array_fixed_invariant.specs.history_Reshaped.{is_done, is_planned, plans_after, open_plans, planned_shape}
use Rattle.array_fixed_invariant.specs.history_World.{World}
use Rattle.array_fixed_invariant.specs.array_members_Moving.{Grows}
use Rattle.array_fixed_invariant.specs.history_append_Losing.{losses_of}
use Rattle.array_fixed_invariant.proofs.history_append_CallLaws.{AreLossEvents, losses-are}
use Rattle.array_fixed_invariant.proofs.history_append_LosingLaws.{entries-both}
use Rattle.array_fixed_invariant.specs.array_call_specs_Kept.{scope_in}
use Rattle.array_fixed_invariant.specs.array_call_specs_Calls.{IsEntered, StandsInside, IsReplied, IsAnswered, IsBehind, IsBehindAll}
use Rattle.array_fixed_invariant.specs.reshape_request_Left.{phases_of}
use Rattle.array_fixed_invariant.specs.history_invariant_Recorded.{entry_of}
use Rattle.array_fixed_invariant.specs.history_invariant_Safe.{world_in}
use Rattle.array_fixed_invariant.proofs.history_invariant_Growing.{room-before}
use Rattle.array_fixed_invariant.proofs.history_invariant_Turned.{filled-before}
use Rattle.array_fixed_invariant.proofs.history_invariant_Tests.{neither}
use Rattle.array_fixed_invariant.specs.history_invariant_laws_Reliable.{IsReliable}
use Rattle.array_fixed_invariant.proofs.history_invariant_laws_Plans.{planned-grown}
use Rattle.array_specs.specs.Parts.{RunningParts}
use Rattle.array_specs.specs.Calls.{moving_world, IsStepTaken}
use Rattle.array_specs.specs.Plans.{GoTo, aim_of, ArePlansKept}

-- ---- what isn't a plan

-- none of these entries is a plan
abbrev pub PlanNone : List Entry → Type 0
PlanNone entries = list_any (λ e. is_planned e.event) entries ≡ false

-- more entries stand behind the old ones, none of which is a plan
pub record AddNoPlan (old new : List Entry) : Type 0 where
  pub more : List Entry
  pub grown : new ≡ old ++ more
  pub none : PlanNone more

-- ---- entries that are no plans

-- they leave the plans that are open, or leave none open
left-open : (plans : List Entry) (added : List Entry) → PlanNone added → (fold plans_after plans added ≡ []) ⊎ (fold plans_after plans added ≡ plans)
left-open plans [] none = inr refl
left-open plans (x ∷ xs) none =
    let parts = neither (is_planned x.event) (list_any (λ e. is_planned e.event) xs) none in
    by (is_done x.event) (is_planned x.event) refl parts.0 (left-open [] xs parts.1) (left-open plans xs parts.1)
  where
    by : (done planned : Bool) → is_done x.event ≡ done → planned ≡ false → (fold plans_after [] xs ≡ []) ⊎ (fold plans_after [] xs ≡ []) → (fold plans_after plans xs ≡ []) ⊎ (fold plans_after plans xs ≡ plans)
        → (fold plans_after (cond done [] (cond planned (x ∷ plans) plans)) xs ≡ []) ⊎ (fold plans_after (cond done [] (cond planned (x ∷ plans) plans)) xs ≡ plans)
    by true planned is other (inl none) same = inl none
    by true planned is other (inr none) same = inl none
    by false true is other ended same = absurd (cc)
    by false false is other ended same = same

pub plans-more : (entries added : List Entry) → PlanNone added → (open_plans (entries ++ added) ≡ []) ⊎ (open_plans (entries ++ added) ≡ open_plans entries)
plans-more entries added none = by (left-open (open_plans entries) added none)
  where
    both : open_plans (entries ++ added) ≡ fold plans_after (open_plans entries) added
    both = fold-append plans_after [] entries added

    by : (fold plans_after (open_plans entries) added ≡ []) ⊎ (fold plans_after (open_plans entries) added ≡ open_plans entries) → (open_plans (entries ++ added) ≡ []) ⊎ (open_plans (entries ++ added) ≡ open_plans entries)
    by (inl ended) = inl (both ∙ ended)
    by (inr same) = inr (both ∙ same)

-- what holds of each plan that is open holds of those that they leave
pub open-all : (P : Entry → Type 0) (entries added : List Entry) → PlanNone added → All P (open_plans entries) → All P (open_plans (entries ++ added))
open-all P entries added none all = by (plans-more entries added none)
  where
    by : (open_plans (entries ++ added) ≡ []) ⊎ (open_plans (entries ++ added) ≡ open_plans entries) → All P (open_plans (entries ++ added))
    by (inl ended) = subst (λ (l : List Entry). All P l) (sym ended) (All-nil P)
    by (inr same) = subst (λ (l : List Entry). All P l) (sym same) all

pub none-open : (entries added : List Entry) → PlanNone added → open_plans entries ≡ [] → open_plans (entries ++ added) ≡ []
none-open entries added none was = by (plans-more entries added none)
  where
    by : (open_plans (entries ++ added) ≡ []) ⊎ (open_plans (entries ++ added) ≡ open_plans entries) → open_plans (entries ++ added) ≡ []
    by (inl ended) = ended
    by (inr same) = same ∙ was

-- a step or a reply that leaves none behind it closes the plans
pub done-closes : (entries : List Entry) (e : Entry) (rest : List Entry) → is_done e.event ≡ true → PlanNone rest → open_plans (entries ++ e ∷ rest) ≡ []
done-closes entries e rest done none =
    fold-append plans_after [] entries (e ∷ rest)
    ∙ ap (λ (b : Bool). fold plans_after (cond b [] (cond (is_planned e.event) (e ∷ open_plans entries) (open_plans entries))) rest) done
    ∙ none-open [] rest none refl

-- ---- what calls enter

lossless : (who : Who) (end : ℕ) (xs tail : List Event) → AreLossEvents xs → list_any (λ e. is_planned e.event) (entries_of who end (xs ++ tail)) ≡ list_any (λ e. is_planned e.event) (entries_of who end tail)
lossless who end [] tail are = refl
lossless who end (Lost role ByFault ∷ xs) tail are = lossless who end xs tail are
lossless who end (SpareLost slot ∷ xs) tail are = lossless who end xs tail are
lossless who end (event ∷ xs) tail are = absurd are

-- losses, and others that are no plans
pub none-behind : (who : Who) (end roles spares : ℕ) (tail : List Event) → PlanNone (entries_of who end tail) → PlanNone (entries_of who end (losses_of roles spares ++ tail))
none-behind who end roles spares tail none = lossless who end (losses_of roles spares) tail (losses-are roles spares) ∙ none

pub add-entered : {tells : Type 0} {tape : List Operation} {who : Who} {old new : List Entry} (events : List Event) → IsEntered tells tape who old new events → ((end : ℕ) → PlanNone (entries_of who end events)) → AddNoPlan old new
add-entered {who = who} events is none = record { more = entries_of who is.end events; grown = is.is; none = none is.end }

pub add-behind : {who : Who} {old new : List Entry} (event : Event) → IsBehind who old new event → is_planned event ≡ false → AddNoPlan old new
add-behind {who = who} event is none = record {
  more = entries_of who is.end (losses_of is.roles is.spares ++ event ∷ []);
  grown = is.is;
  none = none-behind who is.end is.roles is.spares (event ∷ []) (ap (λ (b : Bool). b || false) none);
}

pub add-behind_all : {old new : List Entry} (who : Who) (events : List Event) → IsBehindAll who old new events → ((end : ℕ) → PlanNone (entries_of who end events)) → AddNoPlan old new
add-behind_all who events (roles, spares, end, is) none = record {
  more = entries_of who end (losses_of roles spares ++ events);
  grown = is;
  none = none-behind who end roles spares events (none end);
}

pub add-nothing : {old new : List Entry} → new ≡ old → AddNoPlan old new
add-nothing {old = old} same = record { more = []; grown = same ∙ sym (append-nil old); none = refl }

pub add-step : {T : Type 0} {old new : List Entry} (who : Who) (kind : StepKind) (left : ℕ) (result : Result T Fault) → IsStepTaken who old new kind left result → AddNoPlan old new
add-step who kind left (Ok x) is = add-behind (Step kind left) is refl
add-step who kind left (Err (IsRefusedWith refusal)) is = add-behind (Refused refusal) is refl
add-step who kind left (Err NoMemory) is = absurd is

-- what stands inside a call is no plan
pub inside-none : (event : Event) → StandsInside event → is_planned event ≡ false
inside-none (Planned left wish) inside = absurd inside
inside-none event inside = refl

all-inside : (xs : List Entry) → All (λ e. StandsInside e.event) xs → list_any (λ e. is_planned e.event) xs ≡ false
all-inside [] inside = refl
all-inside (x ∷ xs) inside =
    let first = inside-none x.event (All-head (λ e. StandsInside e.event) x xs inside) in
    let rest = all-inside xs (All-tail (λ e. StandsInside e.event) x xs inside) in
    either (is_planned x.event) (list_any (λ e. is_planned e.event) xs) first rest
  where
    either : (a b : Bool) → a ≡ false → b ≡ false → (a || b) ≡ false
    either false b one two = two
    either true b one two = absurd (cc)

pub add-replied : {who : Who} {old new : List Entry} (size : ℕ) (request : Request) (event : Event) → IsReplied size request who old new event → is_planned event ≡ false → AddNoPlan old new
add-replied {who = who} size request event is none = record {
  more = entries_of who is.end (is.inner ++ event ∷ []);
  grown = is.is;
  none = ap (λ (l : List Entry). list_any (λ e. is_planned e.event) l) (entries-both who is.end is.inner (event ∷ []))
      ∙ list_any-append (λ e. is_planned e.event) (entries_of who is.end is.inner) (entry_of who is.end event ∷ [])
      ∙ ap (λ (b : Bool). b || (is_planned event || false)) (all-inside (entries_of who is.end is.inner) is.inside)
      ∙ ap (λ (b : Bool). b || false) none;
}

pub add-answered : {T : Type 0} {old new : List Entry} (who : Who) (size : ℕ) (request : Request) (event : Event) (result : Result T Fault) → IsAnswered size request who old new event result → is_planned event ≡ false → AddNoPlan old new
add-answered who size request event (Ok x) is none = add-replied size request event is none
add-answered who size request event (Err (IsRefusedWith refusal)) is none = add-replied size request (Refused refusal) is refl
add-answered who size request event (Err NoMemory) is none = add-nothing is

-- ---- the tape grows

ended-all : (n : ℕ) (plans xs : List Entry) → All (λ e. e.end ≤ n) plans → EndBy n xs → All (λ e. e.end ≤ n) (fold plans_after plans xs)
ended-all n plans [] all ends = all
ended-all n plans (x ∷ xs) all ends = ended-all n (plans_after plans x) xs (by (is_done x.event) (is_planned x.event)) ends.1
  where
    by : (done planned : Bool) → All (λ e. e.end ≤ n) (cond done [] (cond planned (x ∷ plans) plans))
    by true planned = All-nil (λ e. e.end ≤ n)
    by false true = All-cons (λ e. e.end ≤ n) x plans ends.0 all
    by false false = all

all-both : (P Q R : Entry → Type 0) → ((e : Entry) → P e → Q e → R e) → (xs : List Entry) → All P xs → All Q xs → All R xs
all-both P Q R f [] ps qs = All-nil R
all-both P Q R f (x ∷ xs) ps qs = All-cons R x xs (f x (All-head P x xs ps) (All-head Q x xs qs)) (all-both P Q R f xs (All-tail P x xs ps) (All-tail Q x xs qs))

pub go-grown : (world : World) (ops : List Operation) (shape : Shape) (entries : List Entry) → EndBy (length world.tape) entries → GoTo world shape entries → GoTo (grown world ops) shape entries
go-grown world ops shape entries ends goes =
    all-both (λ plan. planned_shape world plan.end plan.event ≡ Some shape) (λ e. e.end ≤ length world.tape) (λ plan. planned_shape (grown world ops) plan.end plan.event ≡ Some shape)
    (λ e is within. planned-grown world ops e.end e.event within ∙ is) (open_plans entries) goes (ended-all (length world.tape) [] entries (All-nil (λ e. e.end ≤ length world.tape)) ends)

-- what can be relied on later could be so before
pub reliable-before : (world : World) (ops : List Operation) (entries added : List Entry) → world.first ≤ length world.tape → EndBy (length world.tape) entries → IsReliable (grown world ops) (entries ++ added) → IsReliable world entries
reliable-before world ops entries added begun ends right = record {
  fills = filled-before world ops entries added begun ends right.fills;
  room = room-before world ops begun right.room;
}

-- ---- what is kept of an array's plans

-- the same array, from the same mark on, whose plans lead to the same shape
pub record IsSameAim {B : Type 0} (old new : RunningParts B) : Type 0 where
  pub uuid : new.parts.uuid ≡ old.parts.uuid
  pub given : new.parts.given ≡ old.parts.given
  pub first : new.parts.first ≡ old.parts.first
  pub backup : new.parts.backup ≡ old.parts.backup
  pub aim : aim_of new ≡ aim_of old

-- A call that enters no plan, over a tape that it may have made longer, keeps where they go.
pub plans-kept : {B : Type 0} {tells : Type 0} (given : Given) {tape tape' : List Operation} {old new : RunningParts B} → Grows tells tape tape' → IsSameAim old new → AddNoPlan old.parts.entries new.parts.entries
    → (tells → old.parts.first ≤ length tape) → (tells → EndBy (length tape) old.parts.entries)
    → ArePlansKept tells (moving_world given tape old) old → ArePlansKept tells (moving_world given tape' new) new
plans-kept given {tape = tape} {tape' = tape'} {old = old} {new = new} grows same adds begun ends was t right =
    let world = moving_world given tape old in
    let g = grows.more t in
    let shape = aim_of new in
    let there : moving_world given tape' new ≡ grown world g.0 =
    (λ i. world_in given (g.1 i) (scope_in given (same.uuid i) (same.given i) (same.backup i)) (same.first i)) in
    let reliable : IsReliable (grown world g.0) (old.parts.entries ++ adds.more) = subst (λ (l : List Entry). IsReliable (grown world g.0) l) adds.grown (subst (λ (w : World). IsReliable w new.parts.entries) there right) in
    let goes : GoTo world shape old.parts.entries = subst (λ (s : Shape). GoTo world s old.parts.entries) (sym same.aim) (was t (reliable-before world g.0 old.parts.entries adds.more (begun t) (ends t) reliable)) in
    subst (λ (w : World). GoTo w shape new.parts.entries) (sym there)
    (subst (λ (l : List Entry). GoTo (grown world g.0) shape l) (sym adds.grown)
    (open-all (λ plan. planned_shape (grown world g.0) plan.end plan.event ≡ Some shape) old.parts.entries adds.more adds.none (go-grown world g.0 shape old.parts.entries (ends t) goes)))

-- where no plan is open there is nothing to keep
pub plans-closed : {B : Type 0} (tells : Type 0) (world : World) (array : RunningParts B) → open_plans array.parts.entries ≡ [] → ArePlansKept tells world array
plans-closed tells world array none t right =
    subst (λ (l : List Entry). All (λ plan. planned_shape world plan.end plan.event ≡ Some (aim_of array)) l) (sym none) (All-nil (λ plan. planned_shape world plan.end plan.event ≡ Some (aim_of array)))

-- a reshape begins: it goes to its shape, and the phases behind it are ahead
pub aim-begun : {B : Type 0} (old new : RunningParts B) (to : Shape) (behind : List Phase) → is_reshaping old.parts.members.newest ≡ false → is_reshaping new.parts.members.newest ≡ true → final_shape new.parts.members.newest ≡ to
    → phases_of old.ahead ≡ Reshape to ∷ behind → phases_of new.ahead ≡ behind → aim_of new ≡ aim_of old
aim-begun old new to behind still active final was now =
    (λ i. last_shape (if active i then final i else shape_of new.parts.members.newest) (now i))
    ∙ sym (λ i. last_shape (if still i then final_shape old.parts.members.newest else shape_of old.parts.members.newest) (was i))

-- it ends: its shape is that of the array
pub aim-ended : {B : Type 0} (old new : RunningParts B) → is_reshaping old.parts.members.newest ≡ true → is_reshaping new.parts.members.newest ≡ false → shape_of new.parts.members.newest ≡ final_shape old.parts.members.newest
    → new.ahead ≡ old.ahead → aim_of new ≡ aim_of old
aim-ended old new active still shape ahead =
    (λ i. last_shape (if still i then final_shape new.parts.members.newest else shape i) (phases_of (ahead i)))
    ∙ sym (λ i. last_shape (if active i then final_shape old.parts.members.newest else shape_of old.parts.members.newest) (phases_of old.ahead))
