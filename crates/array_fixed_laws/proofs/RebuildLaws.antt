-- The steps of a rebuild, from what `give_role`, `fill` and `flush_and_record` leave: what is kept, done or refused.
use Rattle.std.proofs.Common.{◌≡◌, ◌≢◌, inl, inr, ℕ, zero, suc, ◌+◌, ◌-◌, ◌*◌, ◌<◌, ◌≤◌, min, true, false, not, is_some, Option, Some, None, List, [], ◌∷◌, ◌++◌, length, refl, sym, ◌∙◌, ap, subst, arith, append-nil, append_assoc}
use Rattle.std.specs.List.{Contains}
use Rattle.std.proofs.lemmas.Bool.{cases_lt}
use Rattle.std.proofs.lemmas.List.Elements.{All-nil}
use Rattle.array_fixed_invariant.specs.raid_types_Sectors.{Sector}
use Rattle.array_specs.specs.raid_types_the_Refusal.{Refusal}
use Rattle.array_fixed_invariant.specs.raid_types_the_Who.{Who}
use Rattle.array_fixed_invariant.specs.raid_types_the_Shape.{Shape}
use Rattle.array_fixed_invariant.specs.raid_types_the_Role.{Role}
use Rattle.array_fixed_invariant.specs.raid_types_the_Role_TheVariants.{Whole, Recovering}
use Rattle.array_fixed_invariant.specs.bank_the_Operation.{Operation}
use Rattle.array_fixed_invariant.specs.bank_Given.{Given}
use Rattle.array_fixed_invariant.specs.reshape_plan_Plans.{phases_steps}
use Rattle.array_fixed_invariant.specs.sb_specs_the_Members.{Members}
use Rattle.array_fixed_invariant.specs.sb_specs_Reading.{Scope, shape_of, role_count, role_state, holder, rows_held}
use Rattle.array_fixed_invariant.proofs.sb_specs_ValidFields.{few-roles}
use Rattle.array_fixed_invariant.specs.stripe_row_Rows.{reading_of, present}
use Rattle.array_fixed_invariant.specs.stripe_list_Writing.{HasFull}
use Rattle.array_fixed_invariant.specs.history_the_Entry.{Entry}
use Rattle.array_fixed_invariant.specs.history_the_Event.{Event}
use Rattle.array_fixed_invariant.specs.history_the_Event_TheVariants.{Lost, Step, Refused, Rebuilt}
use Rattle.array_fixed_invariant.specs.history_the_LostCause_TheVariants.{Fault}
use Rattle.array_fixed_invariant.specs.history_the_StepKind_TheVariants.{RebuildTaken, RebuildStripe, RebuildEnded}
use Rattle.array_fixed_invariant.specs.history_Growing.{EndBy}
use Rattle.array_fixed_invariant.specs.history_Plain.{entries_of}
use Rattle.array_fixed_invariant.specs.crash_views_Regions.{DoWithout}
use Rattle.array_fixed_invariant.specs.array_members_the_Work.{Work}
use Rattle.array_fixed_invariant.specs.array_members_Lacking.{AreLostSince, LacksTooMany, IsOfStripe, DataStandsAmong, RowsStandAmong}
use Rattle.array_fixed_invariant.specs.array_members_Moving.{Grows, IsMoved}
use Rattle.array_fixed_invariant.specs.array_members_Placed.{IsPlaced, is_unassigned}
use Rattle.array_fixed_invariant.specs.array_members_Rebuilding.{with_recovering, with_whole}
use Rattle.array_fixed_invariant.specs.array_members_Status.{stripes_of, rebuilt_of, vacant_count, spare_count, resync_left, role_left, recovery_left, left_of}
use Rattle.array_fixed_invariant.proofs.array_members_GivenMembers.{IsReceiver, state-here}
use Rattle.array_fixed_invariant.proofs.array_members_Still.{count-still}
use Rattle.array_fixed_invariant.specs.history_append_Losing.{losses_of}
use Rattle.array_fixed_invariant.proofs.history_append_LosingLaws.{entries-both}
use Rattle.array_fixed_invariant.proofs.history_append_PlainLaws.{one}
use Rattle.array_fixed_invariant.specs.array_call_specs_Calls.{with_rebuilt}
use Rattle.array_fixed_invariant.proofs.array_call_specs_DegradedLaws.{count-moved}
use Rattle.array_fixed_invariant.proofs.array_call_specs_ToldLosses.{role-told}
use Rattle.array_fixed_invariant.proofs.array_call_specs_StepsLeft.{left-taken, left-filled, left-whole}
use Rattle.array_fixed_invariant.proofs.array_call_laws_RebuildEnded.{whole-spare}
use Rattle.array_fixed_invariant.proofs.array_call_laws_RebuildGiven.{receiver-spare}
use Rattle.array_fixed_invariant.specs.reshape_request_the_PhasesLeft.{PhasesLeft}
use Rattle.array_fixed_invariant.specs.reshape_request_Left.{phases_of}
use Rattle.array_fixed_invariant.specs.history_invariant_Recorded.{IsCallGoing, IsLengthKept, IsOpenBehind}
use Rattle.array_fixed_invariant.specs.history_invariant_Safe.{world_in}
use Rattle.array_fixed_invariant.proofs.history_invariant_Growing.{room-before}
use Rattle.array_fixed_invariant.proofs.history_invariant_Lengths.{open-more}
use Rattle.array_fixed_invariant.proofs.history_invariant_Turned.{filled-before}
use Rattle.array_fixed_invariant.specs.history_invariant_laws_Reliable.{IsReliable}
use Rattle.array_fixed_invariant.specs.Still.{IsStill}
use Rattle.array_fixed_invariant.proofs.Ending.{IsMadeWhole, whole-stands, ended-stands}
use Rattle.array_fixed_invariant.proofs.Rebuilding.{IsTaken, IsFillingStill, taken-stands, filled-stands, gone-stands, unfilled-stands}
use Rattle.array_fixed_invariant.proofs.Resync.{not-zero}
use Rattle.array_specs.specs.Parts.{still_left}
use Rattle.array_specs.proofs.Called.{not_254}
use Rattle.array_fixed_laws.proofs.Closing.{LeadTo, leaves-or-closes}
use Rattle.array_fixed_laws.proofs.Left.{left-alike}
use Rattle.array_fixed_laws.proofs.StepLaws.{left-falls}

-- ---- steps are left

-- a role that a slot recovers has a step left
recovery-some : (work : Work) (m : Members) (role slot : ℕ) → role_state (reading_of m) role ≡ Recovering slot → (n : ℕ) → role < n → 0 < recovery_left work m n
unfolding recovery_left
recovery-some work m role slot is zero lt = absurd (omega (arith, lt))
recovery-some work m role slot is (suc n) lt = elim (cases_lt role n) [
  | inl below ↦ let some = recovery-some work m role slot is n below in omega (arith, some)
  | inr above ↦
      let same : role ≡ n = omega (arith, lt, above) in
      let here : role_left (stripes_of m) (rebuilt_of work n) (role_state (reading_of m) n) ≡ stripes_of m - rebuilt_of work n + 1 =
      ap (role_left (stripes_of m) (rebuilt_of work n)) (subst (λ (r : ℕ). role_state (reading_of m) r ≡ Recovering slot) same is) in
      omega (arith, here)
]

some-left : (resync recovery waiting more left : ℕ) → 0 < recovery → left ≡ (resync + recovery + waiting) + more → left ≢ 0
some-left resync recovery waiting more left some told none = omega (arith, some, told, none)

recovers-some : (work : Work) (m : Members) (ahead : PhasesLeft) (role slot left : ℕ) → role < (shape_of m.newest).disks → role_state (reading_of m) role ≡ Recovering slot → left ≡ still_left work m ahead → left ≢ 0
recovers-some work m ahead role slot left below is told =
    some-left (resync_left work.resync m) (recovery_left work m (shape_of m.newest).disks) (min (vacant_count m) (spare_count m) * (stripes_of m + 2)) (phases_steps (shape_of m.newest) m.newest.size (phases_of ahead)) left
    (recovery-some work m role slot is (shape_of m.newest).disks below) told

-- where a slot holds it yet, it recovers it
still-recovers : {given : Given} {old new : Members} → IsMoved given old new → (role slot : ℕ) → role_state (reading_of old) role ≡ Recovering slot → is_unassigned (reading_of new) role ≡ false → role_state (reading_of new) role ≡ Recovering slot
still-recovers {old = old} {new = new} moved role slot recovers held = by (holder (role_state (reading_of new) role)) refl
  where
    by : (o : Option ℕ) → holder (role_state (reading_of new) role) ≡ o → role_state (reading_of new) role ≡ Recovering slot
    by None is = absurd (let clash : true ≡ false = sym (ap (λ (o : Option ℕ). not (is_some o)) is) ∙ held in cc)
    by (Some s) is = moved.states role s is ∙ recovers

pub recovering-held : (m : Members) (role slot : ℕ) → role_state (reading_of m) role ≡ Recovering slot → is_unassigned (reading_of m) role ≡ false
recovering-held m role slot recovers = ap (λ (s : Role). not (is_some (holder s))) recovers

-- so a step is left of it
pub held-some : {given : Given} {old new : Members} → IsMoved given old new → (next : Work) (ahead : PhasesLeft) (role slot : ℕ) → role < (shape_of old.newest).disks → role_state (reading_of old) role ≡ Recovering slot
    → is_unassigned (reading_of new) role ≡ false → still_left next new ahead ≢ 0
held-some {new = new} moved next ahead role slot below recovers held =
    recovers-some next new ahead role slot (still_left next new ahead) (subst (λ (s : Shape). role < s.disks) (sym moved.shape) below) (still-recovers moved role slot recovers held) refl

-- nor is one that is made whole
pub whole-held : (given : Given) (m : Members) (placed : IsPlaced given m) (role slot : ℕ) → IsReceiver given m role slot → is_unassigned (reading_of (with_whole role slot m)) role ≡ false
whole-held given m placed role slot to = ap (λ (s : Role). not (is_some (holder s))) (state-here given m placed None role slot to)

-- where none holds it any more, its loss is told
pub among-vacant : {given : Given} {old new : Members} {roles spares : ℕ} {before after : ℕ → ℕ} → IsMoved given old new → AreLostSince old new roles spares before after → (role : ℕ) → role < role_count old.newest
    → is_unassigned (reading_of old) role ≡ false → is_unassigned (reading_of new) role ≡ true → Contains (losses_of roles spares) (Lost role Fault)
among-vacant {old = old} {new = new} {roles = roles} {spares = spares} moved since role counted held vacant = elim (since.vacant role (subst (λ (n : ℕ). role < n) (sym (count-moved moved)) counted) vacant) [
  | inl former ↦ absurd (let clash : false ≡ true = sym held ∙ former in cc)
  | inr has ↦ role-told roles spares role (let few = few-roles new.newest moved.placed.fit.valid in let same = count-moved moved in omega (arith, counted, few, same)) has
]

-- losses alone
pub alone : (old new : List Entry) (who : Who) (end : ℕ) (xs : List Event) → new ≡ old ++ entries_of who end xs → new ≡ old ++ entries_of who end (xs ++ [])
alone old new who end xs is = is ∙ ap (λ (l : List Event). old ++ entries_of who end l) (sym (append-nil xs))

-- a step behind losses, and what it tells behind it
pub both : (old mid new : List Entry) (who : Who) (end : ℕ) (xs : List Event) (step event : Event) → mid ≡ old ++ entries_of who end (xs ++ step ∷ []) → new ≡ mid ++ entries_of who end (event ∷ []) → new ≡ old ++ entries_of who end (xs ++ step ∷ event ∷ [])
both old mid new who end xs step event first second =
    second ∙ ap (λ (l : List Entry). l ++ one who end event ∷ []) first ∙ append_assoc old (entries_of who end (xs ++ step ∷ [])) (one who end event ∷ [])
    ∙ ap (λ (l : List Entry). old ++ l) (sym (entries-both who end (xs ++ step ∷ []) (event ∷ [])) ∙ ap (entries_of who end) (append_assoc xs (step ∷ []) (event ∷ [])))

-- ---- a spare takes a role

module _ {tells : Type 0} {given : Given} {tape tape' : List Operation} {scope : Scope} {first : ℕ} {entries : List Entry} {old new : Members} {work : Work} (ahead : PhasesLeft)
    (who : Who) (end role slot roles spares : ℕ) {before after : ℕ → ℕ} (was : IsStill tells given tape scope first entries old work (still_left work old ahead)) (does : DoWithout old)
    (goes : IsCallGoing entries who) (caller : who.caller ≢ 254) (at_end : tells → end ≡ length tape') (known : role < length work.rebuilt)
    (did : IsTaken tells given tape tape' old new role slot roles spares before after) where
  -- one step fewer is left of what is under way
  pub taken-less : left_of (with_rebuilt role 0 work) (with_recovering role slot old) + 1 ≡ left_of work old
  taken-less =
      let to : IsReceiver given old role slot = receiver-spare given old was.members_are.placed was.members_are.free role slot did.below did.vacant did.spare in
      left-taken work old role slot did.below (let n = was.members_are.placed.roles in let count = count-still old.newest was.members_are.still in let at = did.below in omega (arith, at, n, count))
      known did.vacant did.spare to.room.small

  pub take-done : (left : ℕ) → left ≡ still_left (with_rebuilt role 0 work) new ahead
      → LeadTo tells (world_in given tape scope first) entries old ahead
      → IsStill tells given tape' scope first (entries ++ entries_of who end (losses_of roles spares ++ Step RebuildTaken left ∷ [])) new (with_rebuilt role 0 work) (still_left (with_rebuilt role 0 work) new ahead)
  take-done left told plans =
      subst (λ (n : ℕ). IsStill tells given tape' scope first (entries ++ entries_of who end (losses_of roles spares ++ Step RebuildTaken left ∷ [])) new (with_rebuilt role 0 work) n) told
      (taken-stands tells given tape tape' scope first entries old new work (still_left work old ahead) left who end role slot roles spares before after was does goes (not_254 who.caller caller) at_end known
      (left-falls (with_rebuilt role 0 work) ahead (left_of work old) left did.moved did.since taken-less told)
      (leaves-or-closes old new ahead (Step RebuildTaken left) left plans was.members_are.still did.moved.shape told refl refl (λ zero can. inl did.missing)) did)

-- ---- a stripe is rebuilt

module _ {tells : Type 0} {given : Given} {tape tape' : List Operation} {scope : Scope} {first : ℕ} {entries : List Entry} {old new : Members} {work : Work} (ahead : PhasesLeft)
    (who : Who) (end role slot roles spares : ℕ) {before after : ℕ → ℕ} (shape : Shape) (was : IsStill tells given tape scope first entries old work (still_left work old ahead)) (does : DoWithout old)
    (goes : IsCallGoing entries who) (caller : who.caller ≢ 254) (at_end : tells → end ≡ length tape') (same_shape : shape ≡ shape_of old.newest) (below : role < (shape_of old.newest).disks)
    (did : IsFillingStill tells given tape tape' old new role slot roles spares before after shape (rebuilt_of work role)) where
  pub fill-done : (left : ℕ) → work.resync ≡ None → role < length work.rebuilt → rebuilt_of work role < stripes_of old → is_unassigned (reading_of new) role ≡ false
      → left ≡ still_left (with_rebuilt role (rebuilt_of work role + 1) work) new ahead
      → (role_state (reading_of new) role ≡ Recovering slot → tells → (list : ℕ → Sector) → DataStandsAmong shape (IsOfStripe shape (rebuilt_of work role)) old (present given tape) list
      → RowsStandAmong shape (IsOfStripe shape (rebuilt_of work role)) old (present given tape) list
      → (row : ℕ) → IsOfStripe shape (rebuilt_of work role) row → rows_held (reading_of old) (Recovering slot) ≤ row → HasFull (reading_of new) (present given tape') shape list row role slot)
      → IsStill tells given tape' scope first (entries ++ entries_of who end (losses_of roles spares ++ Step RebuildStripe left ∷ [])) new (with_rebuilt role (rebuilt_of work role + 1) work)
      (still_left (with_rebuilt role (rebuilt_of work role + 1) work) new ahead)
  fill-done left synced few unbuilt held told full =
      subst (λ (n : ℕ). IsStill tells given tape' scope first (entries ++ entries_of who end (losses_of roles spares ++ Step RebuildStripe left ∷ [])) new (with_rebuilt role (rebuilt_of work role + 1) work) n) told
      (filled-stands tells given tape tape' scope first entries old new work (still_left work old ahead) left who end role slot roles spares before after shape was does goes (not_254 who.caller caller) at_end same_shape did
      synced few (left-falls (with_rebuilt role (rebuilt_of work role + 1) work) ahead (left_of work old) left did.moved did.since (left-filled work old role slot below few did.recovers unbuilt) told)
      (not-zero left some) full)
    where
      some : left ≢ 0
      some = recovers-some (with_rebuilt role (rebuilt_of work role + 1) work) new ahead role slot left (subst (λ (s : Shape). role < s.disks) (sym did.moved.shape) below) (still-recovers did.moved role slot did.recovers held) told

  pub fill-gone : work.resync ≡ None → role < length work.rebuilt → is_unassigned (reading_of new) role ≡ true
      → IsStill tells given tape' scope first (entries ++ entries_of who end (losses_of roles spares)) new (with_rebuilt role (rebuilt_of work role + 1) work)
      (still_left (with_rebuilt role (rebuilt_of work role + 1) work) new ahead)
  fill-gone synced few vacant =
      gone-stands tells given tape tape' scope first entries old new work (still_left work old ahead) (still_left (with_rebuilt role (rebuilt_of work role + 1) work) new ahead) who end role slot roles spares before after shape
      was does goes (not_254 who.caller caller) at_end same_shape did synced few below vacant

  pub fill-refused : (refusal : Refusal) → LacksTooMany shape new refusal
      → IsStill tells given tape' scope first (entries ++ entries_of who end (losses_of roles spares ++ Refused refusal ∷ [])) new work (still_left work new ahead)
  fill-refused refusal lacks =
      unfilled-stands tells given tape tape' scope first entries old new work (still_left work old ahead) (still_left work new ahead) who end role slot roles spares before after shape
      was does goes (not_254 who.caller caller) at_end same_shape did refusal (left-alike work ahead roles spares before after did.moved did.since) lacks

-- ---- the end

pub ends-behind : (mark : ℕ) (xs ys : List Entry) → EndBy mark (xs ++ ys) → EndBy mark ys
ends-behind mark [] ys ends = ends
ends-behind mark (x ∷ xs) ys ends = ends-behind mark xs ys ends.1

-- What the call left open is the same behind more of it, and where the history can be relied on then, it could be before.
open-later : (tells : Type 0) (given : Given) (tape tape' : List Operation) (scope : Scope) (first : ℕ) (entries : List Entry) (who : Who) (added : List Entry) → Grows tells tape tape' → (tells → first ≤ length tape) → (tells → EndBy (length tape) entries)
    → (goes : IsCallGoing entries who) → (tells → IsReliable (world_in given tape scope first) entries → IsOpenBehind (world_in given tape scope first) goes.call)
    → tells → IsReliable (world_in given tape' scope first) (entries ++ added) → IsOpenBehind (world_in given tape' scope first) goes.call
open-later tells given tape tape' scope first entries who added grows begun ends goes kept t right =
    let g = grows.more t in
    subst (λ (l : List Operation). IsOpenBehind (world_in given l scope first) goes.call) (sym g.1)
    (subst (λ (l : List Entry). IsOpenBehind (world_in given (tape ++ g.0) scope first) l) (append-nil goes.call)
    (open-more (world_in given tape scope first) g.0 goes.call [] (ends-behind (length tape) goes.before goes.call (subst (EndBy (length tape)) goes.is (ends t)))
    (kept t (earlier g.0 (subst (λ (l : List Operation). IsReliable (world_in given l scope first) (entries ++ added)) g.1 right)))
    (All-nil (λ (e : Entry). IsLengthKept (world_in given (tape ++ g.0) scope first) e.end e.event)) refl))
  where
    earlier : (ops : List Operation) → IsReliable (world_in given (tape ++ ops) scope first) (entries ++ added) → IsReliable (world_in given tape scope first) entries
    earlier ops later = record {
      fills = filled-before (world_in given tape scope first) ops entries added (begun t) (ends t) later.fills;
      room = room-before (world_in given tape scope first) ops (begun t) later.room;
    }

module _ {tells : Type 0} {given : Given} {tape tape' : List Operation} {scope : Scope} {first : ℕ} {entries : List Entry} {old new : Members} {work : Work} (ahead : PhasesLeft)
    (who : Who) (end role slot roles spares : ℕ) {before after : ℕ → ℕ} (was : IsStill tells given tape scope first entries old work (still_left work old ahead)) (does : DoWithout old)
    (goes : IsCallGoing entries who) (caller : who.caller ≢ 254) (at_end : tells → end ≡ length tape') (all : stripes_of old ≤ rebuilt_of work role) (synced : work.resync ≡ None)
    (did : IsMadeWhole tells given tape tape' old new role slot roles spares before after) where
  -- one step fewer is left of what is under way
  pub whole-less : left_of work (with_whole role slot old) + 1 ≡ left_of work old
  whole-less =
      left-whole work old role slot did.below (let n = was.members_are.placed.roles in let count = count-still old.newest was.members_are.still in let at = did.below in omega (arith, at, n, count))
      did.recovers all (whole-spare given old was.members_are.free role slot did.recovers)

  pub whole-done : (left : ℕ) → left ≡ still_left work new ahead → LeadTo tells (world_in given tape scope first) entries old ahead → role_state (reading_of new) role ≡ Whole slot
      → (tells → IsReliable (world_in given tape scope first) entries → IsOpenBehind (world_in given tape scope first) goes.call)
      → IsStill tells given tape' scope first (entries ++ entries_of who end (losses_of roles spares ++ Step RebuildEnded left ∷ Rebuilt role ∷ [])) new work (still_left work new ahead)
  whole-done left told plans whole_is kept =
      subst (λ (n : ℕ). IsStill tells given tape' scope first (entries ++ entries_of who end (losses_of roles spares ++ Step RebuildEnded left ∷ Rebuilt role ∷ [])) new work n) told
      (whole-stands tells given tape tape' scope first entries old new work (still_left work old ahead) left who end role slot roles spares before after was does goes (not_254 who.caller caller) at_end all synced did
      whole_is (left-falls work ahead (left_of work old) left did.moved did.since whole-less told)
      (leaves-or-closes old new ahead (Step RebuildEnded left) left plans was.members_are.still did.moved.shape told refl refl (λ zero can. inl did.missing))
      (open-later tells given tape tape' scope first entries who (entries_of who end ((losses_of roles spares ++ Step RebuildEnded left ∷ []) ++ Rebuilt role ∷ [])) did.grows (λ t. (was.recorded t).begun) (λ t. (was.recorded t).ends) goes kept))

  pub end-lost : is_unassigned (reading_of new) role ≡ true → IsStill tells given tape' scope first (entries ++ entries_of who end (losses_of roles spares)) new work (still_left work new ahead)
  end-lost vacant =
      ended-stands tells given tape tape' scope first entries old new work (still_left work old ahead) (still_left work new ahead) who end role slot roles spares before after was does goes (not_254 who.caller caller) at_end
      all synced did vacant
