-- The end of a rebuild: the role is whole on the slot that recovered it, from what `flush_and_record` leaves; or that slot was lost in it.
use Rattle.std.proofs.Common.{◌≡◌, inl, inr, ℕ, ◌+◌, ◌<◌, ◌≤◌, ◌==◌, true, false, not, Option, Some, None, List, [], ◌∷◌, ◌++◌, length, append-nil, refl, sym, ◌∙◌, ap, subst, arith}
use Rattle.std.specs.Prelude.{IsFalse, IfSome, ⊤}
use Rattle.array_reshaping_invariant.specs.raid_types_Sectors.{Sector}
use Rattle.array_reshaping_invariant.specs.raid_types_the_Who.{Who}
use Rattle.array_reshaping_invariant.specs.raid_types_the_Shape.{Shape}
use Rattle.array_reshaping_invariant.specs.raid_types_the_Role.{Role}
use Rattle.array_reshaping_invariant.specs.raid_types_the_Role_TheVariants.{Recovering}
use Rattle.array_reshaping_invariant.specs.bank_the_Operation.{Operation}
use Rattle.array_reshaping_invariant.specs.bank_Given.{Given}
use Rattle.array_reshaping_invariant.specs.sb_specs_the_Members.{Members}
use Rattle.array_reshaping_invariant.specs.sb_specs_Reading.{Scope, is_clean, is_whole, shape_of, role_count, role_state}
use Rattle.array_reshaping_invariant.specs.stripe_row_Rows.{reading_of, present, is_missing}
use Rattle.array_reshaping_invariant.specs.history_the_Entry.{Entry}
use Rattle.array_reshaping_invariant.specs.history_the_Event_TheVariants.{Step}
use Rattle.std.specs.List.{Contains}
use Rattle.array_reshaping_invariant.proofs.sb_specs_ValidFields.{few-roles}
use Rattle.array_reshaping_invariant.proofs.array_call_specs_DegradedLaws.{count-moved}
use Rattle.array_reshaping_invariant.proofs.array_call_specs_ToldLosses.{role-told}
use Rattle.array_call_laws.proofs.RebuildLaws.{losses-end, some-lost}
use Rattle.array_reshaping_invariant.specs.history_invariant_Recorded.{IsLegalCall}
use Rattle.array_reshaping_invariant.proofs.history_invariant_laws_Quiet.{quiet-none, numbers-kept}
use Rattle.array_reshaping_invariant.specs.history_Transfers.{last_end_from}
use Rattle.array_reshaping_invariant.specs.history_Legal.{told_left}
use Rattle.array_reshaping_invariant.proofs.array_call_specs_LedgerLaws.{unsynced-more}
use Rattle.array_fixed_invariant.proofs.Quiet.{tail-stands}
use Rattle.array_reshaping_invariant.specs.history_the_Event.{Event}
use Rattle.array_reshaping_invariant.specs.history_the_Event_TheVariants.{Lost}
use Rattle.array_reshaping_invariant.specs.history_the_LostCause_TheVariants.{Fault}
use Rattle.array_reshaping_invariant.specs.history_Flat.{now}
use Rattle.array_reshaping_invariant.specs.history_Plain.{entries_of}
use Rattle.array_reshaping_invariant.specs.history_Sound.{OpensFit}
use Rattle.array_reshaping_invariant.specs.history_World.{World, opening_list}
use Rattle.array_reshaping_invariant.specs.crash_views_Regions.{DoWithout}
use Rattle.array_reshaping_invariant.specs.crash_views_Views.{Ledger}
use Rattle.array_reshaping_invariant.specs.crash_safety_laws_Marking.{AreOthersPresent}
use Rattle.array_reshaping_invariant.specs.crash_safety_laws_Safety.{HasLiveSlot, HasRoomLeft, IsRisen}
use Rattle.array_reshaping_invariant.specs.crash_safety_laws_Steady.{IsSafeOver, KeepsSafe, AreGoneTold, IsUncleanTold}
use Rattle.array_reshaping_invariant.specs.array_members_the_Work.{Work}
use Rattle.array_reshaping_invariant.specs.sb_safe_updates_Named.{AreNamedMissing}
use Rattle.array_reshaping_invariant.specs.array_members_Lacking.{AreLostSince, RowsStandBelow, synced_rows}
use Rattle.array_reshaping_invariant.specs.array_members_Moving.{Grows, IsMoved}
use Rattle.array_reshaping_invariant.specs.array_members_Numbers.{bears}
use Rattle.array_reshaping_invariant.specs.array_members_Placed.{IsPlaced, is_unassigned}
use Rattle.array_reshaping_invariant.specs.array_members_Status.{stripes_of, rebuilt_of}
use Rattle.array_reshaping_invariant.proofs.array_members_Fit.{list-alike}
use Rattle.array_reshaping_invariant.proofs.array_members_GivenMembers.{IsReceiver, state-here, placed-given}
use Rattle.array_reshaping_invariant.proofs.array_members_LackingLaws.{since-missing}
use Rattle.array_reshaping_invariant.proofs.array_members_LiveLeft.{without-left}
use Rattle.array_reshaping_invariant.specs.history_append_Losing.{losses_of}
use Rattle.array_reshaping_invariant.proofs.history_append_CallLaws.{losses-are}
use Rattle.array_reshaping_invariant.proofs.array_call_specs_DegradedLaws.{count-moved}
use Rattle.array_reshaping_invariant.proofs.array_call_specs_KeptLaws.{left-lost}
use Rattle.array_call_laws.proofs.RebuildGiven.{few-given, free-then, missing-given, list-given, among-given, rebuilt-given}
use Rattle.array_reshaping_invariant.specs.history_invariant_Recorded.{IsCallGoing}
use Rattle.array_reshaping_invariant.specs.history_invariant_Safe.{world_in, IsFilledRight}
use Rattle.array_reshaping_invariant.proofs.history_invariant_laws_LastStep.{AreWithin, losses-within}
use Rattle.array_reshaping_invariant.proofs.history_invariant_laws_Behind.{AreLostOrMissing, IsAmong, early-losses, legal-losses}
use Rattle.array_fixed_invariant.specs.Still.{AreAtRest, HasListStood, IsStill}
use Rattle.std.proofs.Common.{append_assoc}
use Rattle.array_reshaping_invariant.specs.sb_specs_Reading.{list_length}
use Rattle.array_reshaping_invariant.specs.raid_types_the_Role_TheVariants.{Whole}
use Rattle.array_reshaping_invariant.specs.history_the_Event_TheVariants.{Rebuilt}
use Rattle.array_reshaping_invariant.specs.history_the_StepKind_TheVariants.{RebuildEnded}
use Rattle.array_reshaping_invariant.specs.history_Legal.{told_left}
use Rattle.array_reshaping_invariant.specs.history_Losses.{is_resync_end}
use Rattle.array_reshaping_invariant.specs.crash_safety_laws_Steady.{IsMoreTold, AreWritesAllowed, given_back}
use Rattle.array_reshaping_invariant.specs.array_members_Lacking.{RowsStand}
use Rattle.array_reshaping_invariant.specs.array_members_Rebuilding.{with_whole, AreRowsFull}
use Rattle.array_call_laws.proofs.RebuildGiven.{receiver-recovering, whole-here}
use Rattle.array_call_laws.proofs.RebuildEnded.{rows-full, moved-vacant}
use Rattle.array_reshaping_invariant.specs.history_invariant_Recorded.{IsOpenBehind}
use Rattle.array_reshaping_invariant.specs.history_invariant_Told.{told_now}
use Rattle.array_reshaping_invariant.proofs.history_invariant_Lists.{newest-in}
use Rattle.array_reshaping_invariant.proofs.history_invariant_Reshapes.{call-ends_none}
use Rattle.array_reshaping_invariant.specs.history_invariant_laws_Reliable.{IsReliable}
use Rattle.array_reshaping_invariant.proofs.history_invariant_laws_Behind.{telling-of, first-of}
use Rattle.array_reshaping_invariant.proofs.history_invariant_laws_Quiet.{IsLeftBehind, EndsRight, quiet-none}
use Rattle.array_reshaping_invariant.proofs.history_invariant_laws_Giving.{GivesRole, giving-leaves, telling-then}
use Rattle.array_fixed_invariant.proofs.Leaving.{safe-over, safe-now, leaves-stands}
use Rattle.array_fixed_invariant.proofs.Ends.{EndsPlans, ends-right}
use Rattle.array_fixed_invariant.proofs.Resync.{step-between}
use Rattle.array_fixed_invariant.proofs.Stood.{stood-moved}
use Rattle.array_fixed_invariant.proofs.Quiet.{tail-stands}
use Rattle.std.specs.List.{list_any}
use Rattle.std.specs.Prelude.{fold, slice_index_or, is_some}
use Rattle.array_reshaping_invariant.specs.sb_specs_Reading.{holder}
use Rattle.array_reshaping_invariant.specs.history_Flat.{values_of, values_after}
use Rattle.array_reshaping_invariant.specs.history_Losses.{loses}
use Rattle.array_reshaping_invariant.specs.history_invariant_Safe.{TakesNone, is_taken_over}
use Rattle.array_reshaping_invariant.proofs.history_invariant_Entered.{values-more}
use Rattle.array_reshaping_invariant.proofs.history_invariant_Growing.{takes-grown}
use Rattle.array_reshaping_invariant.proofs.history_invariant_Tests.{none-before}
use Rattle.array_reshaping_invariant.proofs.history_append_CallLaws.{values-losses, ends-losses}
use Rattle.array_reshaping_invariant.proofs.history_append_LosingLaws.{entries-both}
use Rattle.array_reshaping_invariant.proofs.history_append_LeftLaws.{fold-left}
use Rattle.array_reshaping_invariant.proofs.history_append_StepLaws.{left-stepped}

-- What `flush_and_record` leaves: the role is whole on the slot that has every row of it, unless that was lost, and what is missing is named.
pub record IsMadeWhole (tells : Type 0) (given : Given) (tape tape' : List Operation) (old new : Members) (role slot roles spares : ℕ) (before after : ℕ → ℕ) : Type 0 where
  pub below : role < (shape_of old.newest).disks
  pub recovers : role_state (reading_of old) role ≡ Recovering slot
  pub moved : IsMoved given (with_whole role slot old) new
  pub since : AreLostSince (with_whole role slot old) new roles spares before after
  pub grows : Grows tells tape tape'
  pub clean : is_clean new.newest ≡ is_clean old.newest
  pub rise : tells → IsRisen ⊤ old new tape tape'
  pub others : tells → AreOthersPresent (present given tape) (present given tape')
  pub missing : HasLiveSlot new → AreNamedMissing new
  pub safe : tells → (world : World) → (told : Ledger) → HasRoomLeft old tape tape' → AreGoneTold told new → told.gone role ≡ true → IsUncleanTold told old → OpensFit world → DoWithout old → (list : ℕ → Sector)
      → RowsStand old (present given tape) list → AreWritesAllowed old told.values list → AreRowsFull old role slot list (present given tape)
      → IsSafeOver world given told old tape → KeepsSafe world given told new tape tape'
  pub back : role_state (reading_of new) role ≡ Whole slot → tells → (world : World) → (told : Ledger) → HasRoomLeft old tape tape' → AreGoneTold told new → told.gone role ≡ true → IsUncleanTold told old → OpensFit world → DoWithout old
      → (list : ℕ → Sector) → RowsStand old (present given tape) list → AreWritesAllowed old told.values list → AreRowsFull old role slot list (present given tape)
      → IsSafeOver world given told old tape → IsSafeOver world given (given_back role told) new tape'

module _ (tells : Type 0) (given : Given) (tape tape' : List Operation) (scope : Scope) (first : ℕ) (entries : List Entry) (old new : Members) (work : Work) (left left' : ℕ)
    (who : Who) (end role slot roles spares : ℕ) (before after : ℕ → ℕ)
    (was : IsStill tells given tape scope first entries old work left) (does : DoWithout old) (goes : IsCallGoing entries who) (caller : IsFalse (who.caller == 254)) (at_end : tells → end ≡ length tape')
    (all : stripes_of old ≤ rebuilt_of work role) (synced : work.resync ≡ None)
    (did : IsMadeWhole tells given tape tape' old new role slot roles spares before after) where
  abbrev V : Members
  V = with_whole role slot old

  abbrev current : ℕ → Sector
  current = now (opening_list (world_in given tape scope first)) entries

  placed : IsPlaced given old
  placed = was.members_are.placed

  to : IsReceiver given old role slot
  to = receiver-recovering given old placed was.members_are.unlost role slot did.below did.recovers

  V-placed : IsPlaced given (with_whole role slot old)
  V-placed = placed-given given old placed None role slot to

  rest : AreAtRest given new
  rest = record {
    placed = did.moved.placed;
    still = did.moved.reshape.reshaping ∙ was.members_are.still;
    unlost = did.moved.unlost;
    free = did.moved.free (free-then given old placed None role slot to was.members_are.free);
    spares = did.moved.spares (few-given given old placed None role slot to);
  }

  -- the role was missing, and told so
  gone-before : is_missing (reading_of old) role ≡ true
  gone-before = ap (λ (s : Role). not (is_whole s)) did.recovers

  counted : role < role_count old.newest
  counted = let n = placed.roles in let at = to.below in omega (arith, at, n)

  gone-told : (t : tells) (told : Ledger) → IsReliable (world_in given tape scope first) entries → IsMoreTold (told_now (world_in given tape scope first) (bears work) false entries) told → told.gone role ≡ true
  gone-told t told right more = more.gone role (was.gone t right role counted gone-before)

  missing : AreLostOrMissing old new (IsAmong roles)
  missing r lt gone = elim (since-missing did.moved did.since r lt gone) [
    | inl in_V ↦ inl (subst (λ (n : ℕ). r < n) (count-moved did.moved) lt, missing-given given old placed None role slot to gone-before r in_V)
    | inr has ↦ inr has
  ]

  -- so the epoch opened fit
  fit : tells → IsFilledRight (world_in given tape scope first) entries → OpensFit (world_in given tape scope first)
  fit t (inl none) = absurd (let clash : true ≡ false = sym gone-before ∙ was.full t none.0 none.2 role counted in cc)
  fit t (inr is) = is

  -- all rows stand, and the slot has each of the role
  rows : tells → IsFilledRight (world_in given tape scope first) entries → RowsStand old (present given tape) (now (opening_list (world_in given tape scope first)) entries)
  rows t fills row lt = (was.listed t does fills).rows (fit t fills) row (subst (λ (o : Option ℕ). row < synced_rows o old) (sym synced) lt) lt

  full : tells → IsFilledRight (world_in given tape scope first) entries → AreRowsFull old role slot (now (opening_list (world_in given tape scope first)) entries) (present given tape)
  full t fills = rows-full given old work role slot (present given tape) current placed did.below did.recovers all (rows t fills) ((was.listed t does fills).rebuilt (fit t fills))

  allowed : (t : tells) (told : Ledger) → IsMoreTold (told_now (world_in given tape scope first) (bears work) false entries) told → AreWritesAllowed old told.values (now (opening_list (world_in given tape scope first)) entries)
  allowed t told more x lt =
      let size = (was.recorded t).sized in
      more.values x (omega (arith, lt, size)) (current x) (newest-in (opening_list (world_in given tape scope first)) entries x (omega (arith, lt, size)))

  keeps : (t : tells) (told : Ledger) → IsReliable (world_in given tape scope first) entries → IsMoreTold (told_now (world_in given tape scope first) (bears work) false entries) told
      → HasRoomLeft old tape tape' → AreGoneTold told new → IsUncleanTold told old → IsSafeOver (world_in given tape scope first) given told old tape → KeepsSafe (world_in given tape scope first) given told new tape tape'
  keeps t told right more room gone unclean began =
      did.safe t (world_in given tape scope first) told room gone (gone-told t told right more) unclean (fit t right.fills) does current (rows t right.fills) (allowed t told more) (full t right.fills) began

  -- ---- where the role is whole

  module _ (whole_is : role_state (reading_of new) role ≡ Whole slot) (less : losses_of roles spares ≡ [] → left' + 1 ≡ left) (free : EndsPlans tells (world_in given tape scope first) entries new work (Step RebuildEnded left'))
      (open_behind : tells → IsReliable (world_in given tape' scope first) (entries ++ entries_of who end ((losses_of roles spares ++ Step RebuildEnded left' ∷ []) ++ Rebuilt role ∷ []))
      → IsOpenBehind (world_in given tape' scope first) goes.call) where
    abbrev early : List Event
    early = losses_of roles spares ++ Step RebuildEnded left' ∷ []

    abbrev added : List Entry
    added = entries_of who end ((losses_of roles spares ++ Step RebuildEnded left' ∷ []) ++ Rebuilt role ∷ [])

    split : (losses_of roles spares ++ Step RebuildEnded left' ∷ []) ++ Rebuilt role ∷ [] ≡ losses_of roles spares ++ Step RebuildEnded left' ∷ Rebuilt role ∷ []
    split = append_assoc (losses_of roles spares) (Step RebuildEnded left' ∷ []) (Rebuilt role ∷ [])

    mended-V : (o : Option ℕ) → synced_rows o (with_whole role slot old) ≡ synced_rows o old
    mended-V None = refl
    mended-V (Some mended) = refl

    listed : tells → DoWithout new → IsFilledRight (world_in given tape scope first) entries
        → HasListStood (OpensFit (world_in given tape scope first)) work new (present given tape') (now (opening_list (world_in given tape scope first)) entries)
    listed t can fills =
        let l = was.listed t does fills in
        stood-moved (OpensFit (world_in given tape scope first)) work given V new (present given tape) (present given tape') current did.moved V-placed (did.others t)
        (record {
          stands = list-given given old placed None role slot to (present given tape) current (whole-here given old placed role slot to (present given tape) current (full t fills)) l.stands;
          whole = l.whole;
          rows = λ so. subst (λ (n : ℕ). RowsStandBelow n V (present given tape) current) (sym (mended-V work.resync))
              (among-given given old placed None role slot to (present given tape) current (whole-here given old placed role slot to (present given tape) current (full t fills))
              (λ row. row < synced_rows work.resync old) (l.rows so));
          rebuilt = λ so. rebuilt-given given old placed None role slot to work work (present given tape) current (λ other apart. refl)
              (λ s row is under. absurd (let clash : Whole slot ≡ Recovering s = sym (state-here given old placed None role slot to) ∙ is in cc)) (l.rebuilt so);
        })

    -- ---- the history

    legal : tells → IsLegalCall (world_in given tape' scope first) entries who end ((losses_of roles spares ++ Step RebuildEnded left' ∷ []) ++ Rebuilt role ∷ [])
    legal t = subst (λ (l : List Event). IsLegalCall (world_in given tape' scope first) entries who end l) (sym split)
        (legal-losses (world_in given tape' scope first) entries who end (losses_of roles spares) (Step RebuildEnded left' ∷ Rebuilt role ∷ []) (losses-are roles spares)
        (step-between (world_in given tape' scope first) entries who end roles spares (entries_of who end (Rebuilt role ∷ [])) RebuildEnded left left' was.left_told less, tt, (tt, tt, tt)))

    reshaped : tells → EndsRight given tape' scope first entries new (bears work) false who end ((losses_of roles spares ++ Step RebuildEnded left' ∷ []) ++ Rebuilt role ∷ [])
    reshaped t = subst (λ (l : List Event). EndsRight given tape' scope first entries new (bears work) false who end l) (sym split)
        (ends-right tells given tape scope first entries new work (bears work) false who (losses_of roles spares) (Step RebuildEnded left') (Rebuilt role ∷ []) (losses-are roles spares) refl refl free rest
        (λ u. (was.recorded u).begun) (λ u. (was.recorded u).ends) current end did.grows at_end (λ u can right so. (listed u can right.fills).rows so) t)

    call : tells → GivesRole given tape scope first entries old new (bears work) false who (losses_of roles spares ++ Step RebuildEnded left' ∷ []) role tape' end
    call t = record {
      within = subst (AreWithin (list_length old.newest)) (sym split)
          (losses-within (list_length old.newest) (losses_of roles spares) (Step RebuildEnded left' ∷ Rebuilt role ∷ []) (losses-are roles spares) (tt, (tt, tt)));
      rise = did.rise t;
      keeps = keeps t;
      back = λ told right more room gone unclean began.
          did.back whole_is t (world_in given tape scope first) told room gone (gone-told t told right more) unclean (fit t right.fills) does current (rows t right.fills) (allowed t told more) (full t right.fills) began;
      legal = λ all right. legal t;
      reshaped = reshaped t;
    }

    Then : List Operation → ℕ → Type 0
    Then l e = GivesRole given tape scope first entries old new (bears work) false who (losses_of roles spares ++ Step RebuildEnded left' ∷ []) role l e
        → (IsReliable (world_in given l scope first) (entries ++ entries_of who e ((losses_of roles spares ++ Step RebuildEnded left' ∷ []) ++ Rebuilt role ∷ [])) → IsOpenBehind (world_in given l scope first) goes.call)
        → IsLeftBehind given tape scope first entries (entries ++ entries_of who e ((losses_of roles spares ++ Step RebuildEnded left' ∷ []) ++ Rebuilt role ∷ [])) new (bears work) false l

    sized : list_length new.newest ≡ list_length old.newest
    sized = list-alike V.newest new.newest did.moved.reshape did.moved.shape did.moved.size

    leaves : tells → IsLeftBehind given tape scope first entries (entries ++ entries_of who end ((losses_of roles spares ++ Step RebuildEnded left' ∷ []) ++ Rebuilt role ∷ [])) new (bears work) false tape'
    unfolding Then
    leaves t =
        let g = did.grows.more t in
        subst (λ (l : List Operation). Then l end) (sym g.1)
        (subst (Then (tape ++ g.0)) (sym (at_end t ∙ ap (λ (l : List Operation). length l) g.1))
        (λ call_to opens. giving-leaves given tape scope first entries old new (bears work) false who early (IsAmong roles) role g.0
        (telling-then (Step RebuildEnded left') (telling-of (first-of (early-losses roles spares))) refl refl (λ n. refl)) goes caller (few-roles new.newest rest.placed.fit.valid) opens
        missing (ap (λ (s : Role). not (is_whole s)) whole_is) sized did.clean was.sizes_are (was.gone t) (was.unclean t) (was.recorded t) (safe-over was (without-left given old placed was.members_are.unlost does) t) (safe-now was (without-left given old placed was.members_are.unlost does) t) call_to))
        (call t) (open_behind t)

    ends : list_any (λ e. is_resync_end e.event) (entries_of who end ((losses_of roles spares ++ Step RebuildEnded left' ∷ []) ++ Rebuilt role ∷ [])) ≡ false
    ends = subst (λ (l : List Event). list_any (λ e. is_resync_end e.event) (entries_of who end l) ≡ false) (sym split)
        (ends-losses who end (losses_of roles spares) (Step RebuildEnded left' ∷ Rebuilt role ∷ []) (losses-are roles spares))

    same : (x : ℕ) → now (opening_list (world_in given tape scope first)) (entries ++ entries_of who end ((losses_of roles spares ++ Step RebuildEnded left' ∷ []) ++ Rebuilt role ∷ [])) x ≡ now (opening_list (world_in given tape scope first)) entries x
    same x = ap (λ (l : List Sector). slice_index_or l 0 []) (
        values-more (opening_list (world_in given tape scope first)) entries added x
        ∙ subst (λ (l : List Event). fold (λ values e. values_after x values e.event) (values_of (opening_list (world_in given tape scope first)) entries x) (entries_of who end l) ≡ values_of (opening_list (world_in given tape scope first)) entries x) (sym split)
        (values-losses who end (losses_of roles spares) (Step RebuildEnded left' ∷ Rebuilt role ∷ []) (losses-are roles spares) x (values_of (opening_list (world_in given tape scope first)) entries x))
        )

    told : IfSome (told_left (entries ++ entries_of who end ((losses_of roles spares ++ Step RebuildEnded left' ∷ []) ++ Rebuilt role ∷ []))) (λ n. n ≡ left')
    told = subst (λ (o : Option ℕ). IfSome o (λ n. n ≡ left')) (sym (
        ap told_left (ap (λ (l : List Entry). entries ++ l) (entries-both who end early (Rebuilt role ∷ [])) ∙ sym (append_assoc entries (entries_of who end early) (entries_of who end (Rebuilt role ∷ []))))
        ∙ fold-left None (entries ++ entries_of who end early) (entries_of who end (Rebuilt role ∷ [])) ∙ left-stepped entries who end (losses_of roles spares) RebuildEnded left'
        )) refl

    pub whole-stands : IsStill tells given tape' scope first (entries ++ entries_of who end (losses_of roles spares ++ Step RebuildEnded left' ∷ Rebuilt role ∷ [])) new work left'
    whole-stands = subst (λ (l : List Event). IsStill tells given tape' scope first (entries ++ entries_of who end l) new work left') split
        (leaves-stands tells given tape tape' scope first entries (entries ++ added) old new work work left left' was did.grows rest (ap (λ (s : Shape). s.level) did.moved.shape) sized told
        (subst (λ (o : Option ℕ). IfSome o (λ mended. mended ≤ stripes_of new)) (sym synced) tt)
        (λ t. unsynced-more (world_in given tape scope first) entries added ends ∙ was.pending t)
        (λ can pending. did.clean ∙ was.dirty does pending)
        (λ t can fills. subst (λ (l : ℕ → Sector). HasListStood (OpensFit (world_in given tape scope first)) work new (present given tape') l) (λ i x. sym (same x) i) (listed t can fills))
        (λ t none level. absurd (let clash : true ≡ false = sym gone-before ∙ was.full t (earlier t none) (none-before (λ e. is_taken_over e.event) entries added level) role counted in cc))
        leaves)
      where
        earlier : (t : tells) → TakesNone (world_in given tape' scope first) (entries ++ entries_of who end ((losses_of roles spares ++ Step RebuildEnded left' ∷ []) ++ Rebuilt role ∷ [])) → TakesNone (world_in given tape scope first) entries
        earlier t none r =
            let g = did.grows.more t in
            sym (takes-grown (world_in given tape scope first) g.0 entries r (was.recorded t).ends)
            ∙ subst (λ (l : List Operation). list_any (loses (world_in given l scope first) r) entries ≡ false) g.1 (none-before (loses (world_in given tape' scope first) r) entries added (none r))

  -- ---- where its slot was lost

  module _ (vacant : is_unassigned (reading_of new) role ≡ true) where
    moved-lost : IsMoved given old new
    moved-lost = moved-vacant given old new placed role slot to was.members_are.free did.recovers did.moved vacant

    -- the role's loss is told
    among : Contains (losses_of roles spares) (Lost role Fault)
    among = elim (did.since.vacant role (subst (λ (n : ℕ). role < n) (sym (count-moved did.moved)) counted) vacant) [
      | inl in_V ↦ absurd (let clash : false ≡ true = sym (ap (λ (s : Role). not (is_some (holder s))) (state-here given old placed None role slot to)) ∙ in_V in cc)
      | inr has ↦ role-told roles spares role (let few = few-roles new.newest did.moved.placed.fit.valid in let same = count-moved did.moved in let at = counted in omega (arith, at, few, same)) has
    ]

    pub ended-stands : IsStill tells given tape' scope first (entries ++ entries_of who end (losses_of roles spares)) new work left'
    ended-stands = subst (λ (l : List Event). IsStill tells given tape' scope first (entries ++ entries_of who end l) new work left') (append-nil (losses_of roles spares))
        (tail-stands tells given tape tape' scope first entries old new work work left left' who end (losses_of roles spares) (IsAmong roles) [] was
        (without-left given old placed was.members_are.unlost does) goes caller at_end did.grows (quiet-none who end) rest did.moved.shape did.moved.size (λ can. does) (early-losses roles spares) missing did.clean
        (λ slot number is. is) refl (subst (λ (o : Option ℕ). IfSome o (λ mended. mended ≤ stripes_of new)) (sym synced) tt)
        (subst (λ (l : List Event). last_end_from first (entries ++ entries_of who end l) ≡ end) (sym (append-nil (losses_of roles spares))) (losses-end first entries who end (losses_of roles spares) (Lost role Fault) among))
        (λ t right told safe fits. call-ends_none (world_in given tape' scope first) entries who end (losses_of roles spares ++ []) ((early-losses roles spares).ends [] refl))
        (left-lost left left' entries who end (losses_of roles spares) [] (losses-are roles spares) (λ none. absurd (some-lost (losses_of roles spares) (Lost role Fault) among none)) was.left_told (λ told is. is))
        (λ t can fills. stood-moved (OpensFit (world_in given tape scope first)) work given old new (present given tape) (present given tape') current moved-lost placed (did.others t) (was.listed t does fills))
        (λ t. numbers-kept given tape scope first entries old new (bears work) false who (losses_of roles spares) [] tape' end (did.rise t) (keeps t)
        (λ all right gone level. legal-losses (world_in given tape' scope first) entries who end (losses_of roles spares) [] (losses-are roles spares) tt)))
