-- Steps of a rebuild: a spare takes a role, from what `give_role` leaves; a stripe is rebuilt, or isn't, from what `fill` leaves.
use Rattle.std.proofs.Common.{◌≡◌, inl, inr, ℕ, ◌+◌, ◌*◌, ◌/◌, ◌<◌, ◌≤◌, ◌==◌, true, false, not, Option, Some, None, List, [], ◌∷◌, ◌++◌, length, append-nil, refl, sym, ◌∙◌, ap, subst, arith}
use Rattle.std.specs.Prelude.{IsFalse, IfSome, ⊤}
use Rattle.array_reshaping_invariant.specs.raid_types_Sectors.{Sector}
use Rattle.array_reshaping_invariant.specs.raid_types_Shapes.{tolerance, tolerance_of}
use Rattle.array_reshaping_invariant.specs.raid_types_the_Refusal.{Refusal}
use Rattle.array_reshaping_invariant.specs.raid_types_the_Who.{Who}
use Rattle.array_reshaping_invariant.specs.raid_types_the_Shape.{Shape}
use Rattle.array_reshaping_invariant.specs.raid_types_the_Role.{Role}
use Rattle.array_reshaping_invariant.specs.raid_types_the_Role_TheVariants.{Recovering}
use Rattle.array_reshaping_invariant.specs.bank_the_Operation.{Operation}
use Rattle.array_reshaping_invariant.specs.bank_Given.{Given}
use Rattle.array_reshaping_invariant.specs.sb_specs_the_Members.{Members}
use Rattle.array_reshaping_invariant.specs.sb_specs_Reading.{Scope, is_clean, is_whole, shape_of, role_count, role_state, rows_held}
use Rattle.array_reshaping_invariant.specs.sb_specs_Reads.{has_spare}
use Rattle.array_reshaping_invariant.specs.stripe_row_Rows.{reading_of, present, is_missing}
use Rattle.array_reshaping_invariant.specs.stripe_list_Writing.{HasFull}
use Rattle.array_reshaping_invariant.specs.history_the_Entry.{Entry}
use Rattle.array_reshaping_invariant.specs.history_the_Event_TheVariants.{Step, Refused}
use Rattle.array_reshaping_invariant.specs.history_the_StepKind_TheVariants.{RebuildTaken, RebuildStripe}
use Rattle.std.specs.List.{Contains}
use Rattle.array_reshaping_invariant.proofs.sb_specs_ValidFields.{few-roles}
use Rattle.array_reshaping_invariant.proofs.array_call_specs_DegradedLaws.{count-moved}
use Rattle.array_reshaping_invariant.proofs.array_call_specs_ToldLosses.{role-told}
use Rattle.array_reshaping_invariant.proofs.history_append_CallLaws.{last_end-behind}
use Rattle.array_call_laws.proofs.RebuildLaws.{losses-end, some-lost}
use Rattle.array_call_laws.proofs.RebuildFilled.{not-vacant}
use Rattle.array_reshaping_invariant.specs.history_invariant_Recorded.{IsLegalCall}
use Rattle.array_reshaping_invariant.proofs.history_invariant_laws_Quiet.{AreQuietLast, quiet-none, numbers-kept, numbers-of}
use Rattle.array_reshaping_invariant.specs.history_Transfers.{last_end_from}
use Rattle.array_reshaping_invariant.specs.history_invariant_Recorded.{ends_reshape}
use Rattle.std.specs.List.{list_any}
use Rattle.array_reshaping_invariant.proofs.history_invariant_Reshapes.{call-ends_none}
use Rattle.array_reshaping_invariant.proofs.Refusals.{quiet-refusal}
use Rattle.array_fixed_invariant.proofs.Ends.{EndsPlans, ends-right}
use Rattle.array_reshaping_invariant.specs.history_Legal.{told_left}
use Rattle.array_fixed_invariant.proofs.Quiet.{tail-stands}
use Rattle.array_fixed_invariant.proofs.Leaving.{rest-moved}
use Rattle.array_reshaping_invariant.proofs.array_members_HeldRows.{without-before}
use Rattle.array_reshaping_invariant.specs.history_the_Event.{Event}
use Rattle.array_reshaping_invariant.specs.history_the_Event_TheVariants.{Lost}
use Rattle.array_reshaping_invariant.specs.history_the_LostCause_TheVariants.{Fault}
use Rattle.array_reshaping_invariant.specs.history_Flat.{now}
use Rattle.array_reshaping_invariant.specs.history_Plain.{entries_of}
use Rattle.array_reshaping_invariant.specs.history_Sound.{OpensFit}
use Rattle.array_reshaping_invariant.specs.history_World.{World, opening_list}
use Rattle.array_reshaping_invariant.specs.crash_views_Regions.{DoWithout}
use Rattle.array_reshaping_invariant.specs.crash_views_Views.{Ledger}
use Rattle.array_reshaping_invariant.specs.crash_safety_laws_Marking.{AreOthersPresent}
use Rattle.array_reshaping_invariant.specs.crash_safety_laws_Safety.{HasLiveSlot, HasRoomLeft, IsRisen}
use Rattle.array_reshaping_invariant.specs.crash_safety_laws_Steady.{IsSafeOver, KeepsSafe, AreGoneTold, IsUncleanTold}
use Rattle.array_reshaping_invariant.specs.array_members_the_Work.{Work}
use Rattle.array_reshaping_invariant.specs.sb_safe_updates_Named.{AreNamedMissing}
use Rattle.array_reshaping_invariant.specs.array_members_Lacking.{AreLostSince, LacksTooMany, AreTooMany, RowsStandBelow, RowsStandAmong, DataStandsAmong, IsOfStripe, synced_rows}
use Rattle.array_reshaping_invariant.specs.array_members_Moving.{Grows, IsMoved}
use Rattle.array_reshaping_invariant.specs.array_members_Numbers.{bears}
use Rattle.array_reshaping_invariant.specs.array_members_Placed.{IsPlaced, is_unassigned}
use Rattle.array_reshaping_invariant.specs.array_members_Rebuilding.{with_recovering, IsFilledAmong}
use Rattle.array_reshaping_invariant.specs.array_members_Status.{stripes_of, rebuilt_of}
use Rattle.array_reshaping_invariant.proofs.array_members_Fit.{list-alike}
use Rattle.array_reshaping_invariant.proofs.array_members_GivenMembers.{IsReceiver, state-here, placed-given}
use Rattle.array_reshaping_invariant.proofs.array_members_HeldRows.{missing-moved, vacant-missing}
use Rattle.array_reshaping_invariant.proofs.array_members_LackingLaws.{since-missing, never-both}
use Rattle.array_reshaping_invariant.proofs.array_members_LackingLists.{list-moved, among-moved}
use Rattle.array_reshaping_invariant.proofs.array_members_LiveLeft.{without-left}
use Rattle.array_reshaping_invariant.specs.history_append_Losing.{losses_of}
use Rattle.array_reshaping_invariant.proofs.history_append_CallLaws.{losses-are}
use Rattle.array_reshaping_invariant.specs.array_call_specs_Calls.{with_rebuilt}
use Rattle.array_reshaping_invariant.proofs.array_call_specs_DegradedLaws.{count-moved, rebuilt-moved}
use Rattle.array_reshaping_invariant.proofs.array_call_specs_KeptLaws.{left-lost}
use Rattle.array_call_laws.proofs.RebuildFilled.{rebuilt-here, rebuilt-other, good-filled, list-filled, rebuilt-filled}
use Rattle.array_call_laws.proofs.RebuildGiven.{receiver-spare, few-given, free-then, missing-given, list-given, among-given, rebuilt-given, none-recovered}
use Rattle.array_call_laws.proofs.TouchedLaws.{full-filled}
use Rattle.array_reshaping_invariant.specs.history_invariant_Recorded.{IsCallGoing}
use Rattle.array_reshaping_invariant.specs.history_invariant_Safe.{world_in, IsFilledRight}
use Rattle.array_reshaping_invariant.proofs.history_invariant_laws_Behind.{or-false, AreLostOrMissing, IsAmong, early-losses, legal-losses}
use Rattle.array_fixed_invariant.specs.Still.{AreAtRest, HasListStood, IsStill}
use Rattle.array_fixed_invariant.proofs.Quiet.{early-stands}
use Rattle.array_fixed_invariant.proofs.Refusals.{too-many-refused, refused-right, unsynced-behind}
use Rattle.array_fixed_invariant.proofs.Resync.{step-behind, told-step}
use Rattle.array_fixed_invariant.proofs.Staying.{missing-since, progress-same}
use Rattle.array_fixed_invariant.proofs.Stood.{mended-moved}

-- ---- a spare takes a role

-- What `give_role` leaves: the slot recovers the role from its first row on, and what is missing is named.
pub record IsTaken (tells : Type 0) (given : Given) (tape tape' : List Operation) (old new : Members) (role slot roles spares : ℕ) (before after : ℕ → ℕ) : Type 0 where
  pub below : role < (shape_of old.newest).disks
  pub vacant : is_unassigned (reading_of old) role ≡ true
  pub spare : has_spare old.spares slot ≡ true
  pub moved : IsMoved given (with_recovering role slot old) new
  pub since : AreLostSince (with_recovering role slot old) new roles spares before after
  pub grows : Grows tells tape tape'
  pub clean : is_clean new.newest ≡ is_clean old.newest
  pub rise : tells → IsRisen ⊤ old new tape tape'
  pub others : tells → AreOthersPresent (present given tape) (present given tape')
  pub missing : HasLiveSlot new → AreNamedMissing new
  pub safe : tells → (world : World) → (told : Ledger) → HasRoomLeft old tape tape' → AreGoneTold told new → told.gone role ≡ true → IsUncleanTold told old → IsSafeOver world given told old tape → KeepsSafe world given told new tape tape'

module _ (tells : Type 0) (given : Given) (tape tape' : List Operation) (scope : Scope) (first : ℕ) (entries : List Entry) (old new : Members) (work : Work) (left left' : ℕ)
    (who : Who) (end role slot roles spares : ℕ) (before after : ℕ → ℕ)
    (was : IsStill tells given tape scope first entries old work left) (does : DoWithout old) (goes : IsCallGoing entries who) (caller : IsFalse (who.caller == 254)) (at_end : tells → end ≡ length tape')
    (known : role < length work.rebuilt) (less : losses_of roles spares ≡ [] → left' + 1 ≡ left) (free : EndsPlans tells (world_in given tape scope first) entries new (with_rebuilt role 0 work) (Step RebuildTaken left'))
    (did : IsTaken tells given tape tape' old new role slot roles spares before after) where
  abbrev V : Members
  V = with_recovering role slot old

  abbrev next : Work
  next = with_rebuilt role 0 work

  abbrev current : ℕ → Sector
  current = now (opening_list (world_in given tape scope first)) entries

  placed : IsPlaced given old
  placed = was.members_are.placed

  to : IsReceiver given old role slot
  to = receiver-spare given old placed was.members_are.free role slot did.below did.vacant did.spare

  V-placed : IsPlaced given (with_recovering role slot old)
  V-placed = placed-given given old placed (Some 0) role slot to

  rest : AreAtRest given new
  rest = record {
    placed = did.moved.placed;
    still = did.moved.reshape.reshaping ∙ was.members_are.still;
    unlost = did.moved.unlost;
    free = did.moved.free (free-then given old placed (Some 0) role slot to was.members_are.free);
    spares = did.moved.spares (few-given given old placed (Some 0) role slot to);
  }

  gone-before : is_missing (reading_of old) role ≡ true
  gone-before = vacant-missing (reading_of old) role did.vacant

  missing : AreLostOrMissing old new (IsAmong roles)
  missing r lt gone = elim (since-missing did.moved did.since r lt gone) [
    | inl in_V ↦ inl (subst (λ (n : ℕ). r < n) (count-moved did.moved) lt, missing-given given old placed (Some 0) role slot to gone-before r in_V)
    | inr has ↦ inr has
  ]

  -- the role itself is missing still
  counted : role < role_count new.newest
  counted = subst (λ (n : ℕ). role < n) (sym (count-moved did.moved)) (let n = placed.roles in let at = to.below in omega (arith, at, n))

  still-missing : is_missing (reading_of new) role ≡ true
  still-missing = missing-moved did.moved role (ap (λ (s : Role). not (is_whole s)) (state-here given old placed (Some 0) role slot to))

  nothing-held : (s row : ℕ) → row < 0 * (shape_of old.newest).chunk → ⊥
  nothing-held s row lt = omega (arith, lt)

  listed : tells → DoWithout new → IsFilledRight (world_in given tape scope first) entries
      → HasListStood (OpensFit (world_in given tape scope first)) (with_rebuilt role 0 work) new (present given tape') (now (opening_list (world_in given tape scope first)) entries)
  listed t can fills =
      let l = was.listed t does fills in
      record {
        stands = list-moved given V new (present given tape) (present given tape') current did.moved V-placed (did.others t)
            (list-given given old placed (Some 0) role slot to (present given tape) current (λ s row lt held. absurd (none-recovered given old placed role slot to s row held)) l.stands);
        whole = λ fit x lt. l.whole fit x (subst (λ (n : ℕ). x < n) (list-alike V.newest new.newest did.moved.reshape did.moved.shape did.moved.size) lt);
        rows = λ fit. subst (λ (n : ℕ). RowsStandBelow n new (present given tape') current) (sym (mended-taken work.resync))
            (subst (λ (s : Shape). RowsStandAmong s (λ row. row < synced_rows work.resync old) new (present given tape') current) (sym did.moved.shape)
            (among-moved (shape_of old.newest) (λ row. row < synced_rows work.resync old) given V new (present given tape) (present given tape') current did.moved V-placed (did.others t)
            (among-given given old placed (Some 0) role slot to (present given tape) current (λ s row lt held. absurd (none-recovered given old placed role slot to s row held))
            (λ row. row < synced_rows work.resync old) (l.rows fit))));
        rebuilt = λ fit. rebuilt-moved next given V new (present given tape) (present given tape') current did.moved V-placed (did.others t)
            (rebuilt-given given old placed (Some 0) role slot to work next (present given tape) current (λ other apart. rebuilt-other work role 0 other apart)
            (λ s row is under. nothing-held s row (subst (λ (n : ℕ). row < n * (shape_of old.newest).chunk) (rebuilt-here work role 0 known) under))
            (l.rebuilt fit));
      }
    where
      mended-taken : (o : Option ℕ) → synced_rows o new ≡ synced_rows o old
      mended-taken None = did.moved.size
      mended-taken (Some mended) = ap (λ (s : Shape). mended * s.chunk) did.moved.shape

  pub taken-stands : IsStill tells given tape' scope first (entries ++ entries_of who end (losses_of roles spares ++ Step RebuildTaken left' ∷ [])) new (with_rebuilt role 0 work) left'
  taken-stands =
      tail-stands tells given tape tape' scope first entries old new work (with_rebuilt role 0 work) left left' who end (losses_of roles spares) (IsAmong roles) (Step RebuildTaken left' ∷ []) was
      (without-left given old placed was.members_are.unlost does) goes caller at_end did.grows
      (record { adds = refl; gives = refl; still = λ x values. refl; level = λ n. refl }) rest did.moved.shape did.moved.size (λ can. does)
      (early-losses roles spares) missing did.clean (λ slot number is. is) refl (progress work.resync was.progress)
      (last_end-behind first entries who end (losses_of roles spares) (Step RebuildTaken left')) (ends-right tells given tape scope first entries new (with_rebuilt role 0 work) (bears (with_rebuilt role 0 work)) false who (losses_of roles spares) (Step RebuildTaken left') [] (losses-are roles spares) refl refl free rest
      (λ u. (was.recorded u).begun) (λ u. (was.recorded u).ends) current end did.grows at_end (λ u can right fit. (listed u can right.fills).rows fit))
      (told-step entries who end roles spares RebuildTaken left') listed
      (λ t. numbers-of given tape scope first entries old new (bears work) false who (losses_of roles spares) (Step RebuildTaken left') tape' end
      (record {
        rise = did.rise t;
        keeps = λ told fills more room gone unclean began. did.safe t (world_in given tape scope first) told room gone (gone role counted still-missing) unclean began;
        legal = λ all fills gone level. legal-losses (world_in given tape' scope first) entries who end (losses_of roles spares) (Step RebuildTaken left' ∷ []) (losses-are roles spares)
            (step-behind (world_in given tape' scope first) entries who end roles spares RebuildTaken left left' was.left_told less, tt, tt);
      }))
    where
      progress : (o : Option ℕ) → IfSome o (λ mended. mended ≤ stripes_of old) → IfSome o (λ mended. mended ≤ stripes_of new)
      progress None is = tt
      progress (Some mended) is = subst (λ (n : ℕ). mended ≤ n) (λ i. sym did.moved.size i / (sym did.moved.shape i).chunk) is

-- ---- a stripe is rebuilt

-- What `fill` leaves of the role's next stripe, whether it was rebuilt or not: nothing but places of its rows was written, which no view has.
pub record IsFillingStill (tells : Type 0) (given : Given) (tape tape' : List Operation) (old new : Members) (role slot roles spares : ℕ) (before after : ℕ → ℕ) (shape : Shape) (stripe : ℕ) : Type 0 where
  pub recovers : role_state (reading_of old) role ≡ Recovering slot
  pub moved : IsMoved given old new
  pub since : AreLostSince old new roles spares before after
  pub grows : Grows tells tape tape'
  pub clean : is_clean new.newest ≡ is_clean old.newest
  pub rise : tells → IsRisen ⊤ old new tape tape'
  pub others : tells → IsFilledAmong old role slot (IsOfStripe shape stripe) (present given tape) (present given tape')
  pub safe : tells → (world : World) → (told : Ledger) → HasRoomLeft old tape tape' → AreGoneTold told new → IsUncleanTold told old → IsSafeOver world given told old tape → KeepsSafe world given told new tape tape'

module _ (tells : Type 0) (given : Given) (tape tape' : List Operation) (scope : Scope) (first : ℕ) (entries : List Entry) (old new : Members) (work : Work) (left left' : ℕ)
    (who : Who) (end role slot roles spares : ℕ) (before after : ℕ → ℕ) (shape : Shape)
    (was : IsStill tells given tape scope first entries old work left) (does : DoWithout old) (goes : IsCallGoing entries who) (caller : IsFalse (who.caller == 254)) (at_end : tells → end ≡ length tape')
    (same_shape : shape ≡ shape_of old.newest) (did : IsFillingStill tells given tape tape' old new role slot roles spares before after shape (rebuilt_of work role)) where
  abbrev held : ℕ → Sector
  held = now (opening_list (world_in given tape scope first)) entries

  -- what was filled: each of its rows on the slot, where that recovers the role yet
  abbrev IsFullAs : Type 0
  IsFullAs = role_state (reading_of new) role ≡ Recovering slot → tells → (list : ℕ → Sector) → DataStandsAmong shape (IsOfStripe shape (rebuilt_of work role)) old (present given tape) list
      → RowsStandAmong shape (IsOfStripe shape (rebuilt_of work role)) old (present given tape) list
      → (row : ℕ) → IsOfStripe shape (rebuilt_of work role) row → rows_held (reading_of old) (Recovering slot) ≤ row → HasFull (reading_of new) (present given tape') shape list row role slot

  filled-list : role < length work.rebuilt → work.resync ≡ None → IsFullAs → (t : tells) → HasListStood (OpensFit (world_in given tape scope first)) work old (present given tape) (now (opening_list (world_in given tape scope first)) entries)
      → HasListStood (OpensFit (world_in given tape scope first)) (with_rebuilt role (rebuilt_of work role + 1) work) new (present given tape') (now (opening_list (world_in given tape scope first)) entries)
  filled-list few synced filled t l = record {
    stands = list-filled work did.moved was.members_are.placed role slot did.recovers shape same_shape (present given tape) (present given tape') held (did.others t) l.stands;
    whole = λ fit x lt. l.whole fit x (subst (λ (n : ℕ). x < n) (list-alike old.newest new.newest did.moved.reshape did.moved.shape did.moved.size) lt);
    rows = λ fit. subst (λ (n : ℕ). RowsStandBelow n new (present given tape') held) (sym (mended-moved did.moved work.resync))
        (good-filled work did.moved was.members_are.placed role slot did.recovers shape same_shape (present given tape) (present given tape') held (did.others t) (synced_rows work.resync old) (l.rows fit));
    rebuilt = λ fit. rebuilt-filled work did.moved was.members_are.placed role slot did.recovers shape same_shape (present given tape) (present given tape') held (did.others t) few
        (λ recovers. full-filled given old new did.moved was.members_are.placed shape same_shape (rebuilt_of work role) tape tape' role slot (filled recovers) t held l.stands
        (λ row low. l.rows fit row (subst (λ (o : Option ℕ). row < synced_rows o old) (sym synced) low) low))
        (l.rebuilt fit);
  }

  -- the call enters its losses, and a step or nothing
  filled-tail : (tail : List Event) → AreQuietLast who end tail → last_end_from first (entries ++ entries_of who end (losses_of roles spares ++ tail)) ≡ end
      → list_any ends_reshape tail ≡ false
      → IfSome (told_left (entries ++ entries_of who end (losses_of roles spares ++ tail))) (λ n. n ≡ left')
      → (tells → IsLegalCall (world_in given tape' scope first) (entries ++ entries_of who end (losses_of roles spares)) who end tail)
      → role < length work.rebuilt → work.resync ≡ None → IsFullAs
      → IsStill tells given tape' scope first (entries ++ entries_of who end (losses_of roles spares ++ tail)) new (with_rebuilt role (rebuilt_of work role + 1) work) left'
  filled-tail tail quiet ended going told legal few synced filled =
      tail-stands tells given tape tape' scope first entries old new work (with_rebuilt role (rebuilt_of work role + 1) work) left left' who end (losses_of roles spares) (IsAmong roles) tail was
      (without-left given old was.members_are.placed was.members_are.unlost does) goes caller at_end did.grows quiet (rest-moved given old new did.moved was.members_are) did.moved.shape did.moved.size
      (without-before given old new did.moved) (early-losses roles spares) (missing-since did.moved did.since) did.clean
      (λ slot number is. is) refl (progress-same did.moved work.resync was.progress) ended
      (λ t right gone safe fit. call-ends_none (world_in given tape' scope first) entries who end (losses_of roles spares ++ tail) ((early-losses roles spares).ends tail going)) told
      (λ t can fills. filled-list few synced filled t (was.listed t does fills))
      (λ t. numbers-kept given tape scope first entries old new (bears work) false who (losses_of roles spares) tail tape' end (did.rise t)
      (λ told right more room gone unclean began. did.safe t (world_in given tape scope first) told room gone unclean began)
      (λ all right gone level. legal-losses (world_in given tape' scope first) entries who end (losses_of roles spares) tail (losses-are roles spares) (legal t)))

  -- where it was, no resync is pending, so that all rows stand
  pub filled-stands : work.resync ≡ None → role < length work.rebuilt → (losses_of roles spares ≡ [] → left' + 1 ≡ left) → ends_reshape (Step RebuildStripe left') ≡ false → IsFullAs
      → IsStill tells given tape' scope first (entries ++ entries_of who end (losses_of roles spares ++ Step RebuildStripe left' ∷ [])) new (with_rebuilt role (rebuilt_of work role + 1) work) left'
  filled-stands synced few less going =
      filled-tail (Step RebuildStripe left' ∷ []) (record { adds = refl; gives = refl; still = λ x values. refl; level = λ n. refl })
      (last_end-behind first entries who end (losses_of roles spares) (Step RebuildStripe left')) (or-false (ends_reshape (Step RebuildStripe left')) false going refl)
      (told-step entries who end roles spares RebuildStripe left')
      (λ t. (step-behind (world_in given tape' scope first) entries who end roles spares RebuildStripe left left' was.left_told less, tt, tt)) few synced

  -- where its slot was lost in this, only the losses are entered
  pub gone-stands : work.resync ≡ None → role < length work.rebuilt → role < (shape_of old.newest).disks → is_unassigned (reading_of new) role ≡ true
      → IsStill tells given tape' scope first (entries ++ entries_of who end (losses_of roles spares)) new (with_rebuilt role (rebuilt_of work role + 1) work) left'
  gone-stands synced few below vacant =
      subst (λ (l : List Event). IsStill tells given tape' scope first (entries ++ entries_of who end l) new (with_rebuilt role (rebuilt_of work role + 1) work) left') (append-nil (losses_of roles spares))
      (filled-tail [] (quiet-none who end) (subst (λ (l : List Event). last_end_from first (entries ++ entries_of who end l) ≡ end) (sym (append-nil (losses_of roles spares)))
      (losses-end first entries who end (losses_of roles spares) (Lost role Fault) among))
      refl
      (left-lost left left' entries who end (losses_of roles spares) [] (losses-are roles spares) (λ none. absurd (some-lost (losses_of roles spares) (Lost role Fault) among none)) was.left_told (λ told is. is))
      (λ t. tt) few synced not-held)
    where
      counted : role < role_count new.newest
      counted = let same = count-moved did.moved in let n = was.members_are.placed.roles in omega (arith, below, same, n)

      among : Contains (losses_of roles spares) (Lost role Fault)
      among = elim (did.since.vacant role counted vacant) [
        | inl former ↦ not-vacant old role slot did.recovers former
        | inr has ↦ role-told roles spares role (let few = few-roles new.newest did.moved.placed.fit.valid in omega (arith, counted, few)) has
      ]

      not-held : IsFullAs
      not-held recovers = not-vacant new role slot recovers vacant

  -- one that isn't, since too many are missing
  pub unfilled-stands : (refusal : Refusal) → (losses_of roles spares ≡ [] → left' ≡ left) → LacksTooMany shape new refusal
      → IsStill tells given tape' scope first (entries ++ entries_of who end (losses_of roles spares ++ Refused refusal ∷ [])) new work left'
  unfilled-stands refusal alike lacks =
      early-stands tells given tape tape' scope first entries old new work work left left' who end (losses_of roles spares) (IsAmong roles) (Refused refusal) was
      (without-left given old was.members_are.placed was.members_are.unlost does) goes caller at_end did.grows (quiet-refusal refusal) did.moved (early-losses roles spares) (missing-since did.moved did.since) did.clean
      refl refl (progress-same did.moved work.resync was.progress)
      (left-lost left left' entries who end (losses_of roles spares) (Refused refusal ∷ []) (losses-are roles spares) alike was.left_told (λ told is. is))
      (λ t can fills. absurd (never-both new refusal can many))
      (λ t. record {
        rise = did.rise t;
        keeps = λ told fills more room gone unclean began. did.safe t (world_in given tape scope first) told room gone unclean began;
        legal = λ all fills gone level. legal-losses (world_in given tape' scope first) entries who end (losses_of roles spares) (Refused refusal ∷ []) (losses-are roles spares) (
          refused-right (world_in given tape' scope first) (entries ++ entries_of who end (losses_of roles spares)) given new did.moved.placed work.resync gone
              (ap tolerance_of level ∙ was.levelled t fills ∙ ap tolerance (sym did.moved.shape))
              (unsynced-behind tells given tape tape' scope first entries who end roles spares did.grows (λ u. (was.recorded u).begun) t ∙ was.pending t) refusal (too-many-refused work.resync new refusal many),
          tt,
          tt,
        );
      })
    where
      many : AreTooMany new refusal
      many = inl (subst (λ (s : Shape). LacksTooMany s new refusal) (same_shape ∙ sym did.moved.shape) lacks)
