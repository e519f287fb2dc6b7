-- A call that leaves the list as it is, and enters losses, or more, and one event behind them.
use Rattle.std.proofs.Common.{◌≡◌, ℕ, ◌*◌, ◌≤◌, ◌==◌, Bool, true, false, List, [], ◌∷◌, ◌++◌, length, refl, sym, ◌∙◌, ap, subst}
use Rattle.std.specs.Prelude.{IsFalse, IfSome, is_some}
use Rattle.std.specs.List.{list_any}
use Rattle.array_reshaping_invariant.specs.raid_types_Sectors.{Sector}
use Rattle.array_reshaping_invariant.specs.raid_types_Shapes.{data_disks}
use Rattle.array_reshaping_invariant.specs.raid_types_the_Who.{Who}
use Rattle.array_reshaping_invariant.specs.raid_types_the_Shape.{Shape}
use Rattle.array_reshaping_invariant.specs.bank_the_Operation.{Operation}
use Rattle.array_reshaping_invariant.specs.bank_Given.{Given}
use Rattle.array_reshaping_invariant.specs.sb_specs_the_Members.{Members}
use Rattle.array_reshaping_invariant.specs.sb_specs_Reading.{Scope, is_clean, shape_of, list_length}
use Rattle.array_reshaping_invariant.proofs.sb_specs_ValidFields.{few-roles}
use Rattle.array_reshaping_invariant.specs.stripe_row_Rows.{present}
use Rattle.array_reshaping_invariant.specs.history_the_Entry.{Entry}
use Rattle.array_reshaping_invariant.specs.history_the_Event.{Event}
use Rattle.array_reshaping_invariant.specs.history_Flat.{now}
use Rattle.array_reshaping_invariant.specs.history_Legal.{told_left}
use Rattle.array_reshaping_invariant.specs.history_Transfers.{last_end_from}
use Rattle.array_reshaping_invariant.specs.history_Losses.{is_resync_end}
use Rattle.array_reshaping_invariant.specs.history_Plain.{entries_of}
use Rattle.array_reshaping_invariant.specs.history_Sound.{OpensFit}
use Rattle.array_reshaping_invariant.specs.history_World.{opening_list}
use Rattle.array_reshaping_invariant.specs.crash_views_Regions.{DoWithout}
use Rattle.array_reshaping_invariant.proofs.crash_views_Stands.{list-still}
use Rattle.array_reshaping_invariant.specs.crash_safety_laws_Safety.{HasLiveSlot}
use Rattle.array_reshaping_invariant.specs.array_members_the_Work.{Work}
use Rattle.array_reshaping_invariant.specs.array_members_Moving.{Grows, IsMoved}
use Rattle.array_reshaping_invariant.specs.array_members_Numbers.{bears}
use Rattle.array_reshaping_invariant.specs.array_members_Status.{stripes_of}
use Rattle.array_reshaping_invariant.proofs.array_members_HeldRows.{without-before}
use Rattle.array_reshaping_invariant.proofs.history_append_CallLaws.{last_end-behind}
use Rattle.array_reshaping_invariant.proofs.history_invariant_Reshapes.{call-ends_none}
use Rattle.array_reshaping_invariant.specs.history_invariant_Recorded.{IsCallGoing, ends_reshape}
use Rattle.array_reshaping_invariant.specs.history_invariant_Safe.{world_in, IsFilledRight}
use Rattle.array_reshaping_invariant.proofs.history_invariant_Entered.{settle-none}
use Rattle.array_reshaping_invariant.proofs.history_invariant_laws_Behind.{or-false, AreEarly, AreLostOrMissing}
use Rattle.array_reshaping_invariant.proofs.history_invariant_laws_Quiet.{IsQuiet, AreQuietLast, quiet-last, LeavesNumbers, LeavesList, IsLeftBehind, EndsRight, numbers-leaves, numbers-of, last-now}
use Rattle.array_reshaping_invariant.proofs.array_call_specs_LedgerLaws.{none-ends, unsynced-more}
use Rattle.array_fixed_invariant.specs.Still.{AreAtRest, HasListStood, IsStill}
use Rattle.array_fixed_invariant.proofs.Leaving.{safe-over, safe-now, rest-moved, none-taken, leaves-stands}

-- The call keeps the record, with no event behind those or one: its members are at rest, in the same shape, what is missing of them is told, and the list stands on them. What is under way then has a
-- resync pending just so, and knows no fewer device numbers.
pub tail-stands : (tells : Type 0) (given : Given) (tape tape' : List Operation) (scope : Scope) (first : ℕ) (entries : List Entry) (old new : Members) (work work' : Work) (left left' : ℕ)
    (who : Who) (end : ℕ) (early : List Event) (IsTaken : ℕ → Type 0) (tail : List Event)
    → IsStill tells given tape scope first entries old work left → HasLiveSlot old → IsCallGoing entries who → IsFalse (who.caller == 254) → (tells → end ≡ length tape') → Grows tells tape tape' → AreQuietLast who end tail
    → AreAtRest given new → shape_of new.newest ≡ shape_of old.newest → new.newest.size ≡ old.newest.size → (DoWithout new → DoWithout old)
    → AreEarly early IsTaken → AreLostOrMissing old new IsTaken → is_clean new.newest ≡ is_clean old.newest
    → ((slot number : ℕ) → bears work slot number ≡ true → bears work' slot number ≡ true) → is_some work'.resync ≡ is_some work.resync → IfSome work'.resync (λ mended. mended ≤ stripes_of new)
    → last_end_from first (entries ++ entries_of who end (early ++ tail)) ≡ end → (tells → EndsRight given tape' scope first entries new (bears work') false who end (early ++ tail))
    → IfSome (told_left (entries ++ entries_of who end (early ++ tail))) (λ n. n ≡ left')
    → (tells → DoWithout new → IsFilledRight (world_in given tape scope first) entries
    → HasListStood (OpensFit (world_in given tape scope first)) work' new (present given tape') (now (opening_list (world_in given tape scope first)) entries))
    → (tells → LeavesNumbers given tape scope first entries old new (bears work) (bears work') false who early tail tape' end)
    → IsStill tells given tape' scope first (entries ++ entries_of who end (early ++ tail)) new work' left'
tail-stands tells given tape tape' scope first entries old new work work' left left' who end early IsTaken tail was live goes caller at_end grows quiet rest shape size before are missing clean carries pends progress ended reshaped told listed call =
    leaves-stands tells given tape tape' scope first entries (entries ++ added) old new work work' left left' was grows rest (ap (λ (s : Shape). s.level) shape) sized told progress
    (λ t. unsynced-more (world_in given tape scope first) entries added ends ∙ was.pending t ∙ sym pends)
    (λ does pending. clean ∙ was.dirty (before does) (sym pends ∙ pending))
    (λ t does fills. subst (λ (l : ℕ → Sector). HasListStood (OpensFit (world_in given tape scope first)) work' new (present given tape') l) (sym same) (listed t does fills))
    (none-taken tells given tape tape' scope first entries old new who end (early ++ tail) IsTaken grows (λ u. (was.recorded u).ends) (few-roles new.newest rest.placed.fit.valid) missing (λ role lt has. are.lost who end tail role lt has) was.full)
    leaves
  where
    added : List Entry
    added = entries_of who end (early ++ tail)

    ends : list_any (λ e. is_resync_end e.event) (entries_of who end (early ++ tail)) ≡ false
    ends = none-ends (entries_of who end (early ++ tail)) (settle-none (entries_of who end (early ++ tail)) (are.adds who end tail quiet.adds))

    same : now (opening_list (world_in given tape scope first)) (entries ++ entries_of who end (early ++ tail)) ≡ now (opening_list (world_in given tape scope first)) entries
    same = λ i x. last-now (opening_list (world_in given tape scope first)) entries who end early IsTaken tail are quiet x i

    sized : list_length new.newest ≡ list_length old.newest
    sized = list-still new.newest rest.still ∙ (λ i. data_disks (shape i) * size i) ∙ sym (list-still old.newest was.members_are.still)

    Then : List Operation → ℕ → Type 0
    Then l e = AreQuietLast who e tail → last_end_from first (entries ++ entries_of who e (early ++ tail)) ≡ e → EndsRight given l scope first entries new (bears work') false who e (early ++ tail)
        → LeavesNumbers given tape scope first entries old new (bears work) (bears work') false who early tail l e
        → IsLeftBehind given tape scope first entries (entries ++ entries_of who e (early ++ tail)) new (bears work') false l

    leaves : tells → IsLeftBehind given tape scope first entries (entries ++ entries_of who end (early ++ tail)) new (bears work') false tape'
    leaves t =
        let g = grows.more t in
        subst (λ (l : List Operation). Then l end) (sym g.1)
        (subst (Then (tape ++ g.0)) (sym (at_end t ∙ ap (λ (l : List Operation). length l) g.1))
        (λ quiet_here ended_here reshaped_here. numbers-leaves given tape scope first entries old new (bears work) (bears work') false who early IsTaken tail g.0 are carries goes caller quiet_here ended_here reshaped_here (few-roles new.newest rest.placed.fit.valid) missing
        sized clean was.sizes_are (was.gone t) (was.unclean t) (was.recorded t) (safe-over was live t) (safe-now was live t)))
        quiet ended (reshaped t) (call t)

-- So it is with one event.
pub placed-stands : (tells : Type 0) (given : Given) (tape tape' : List Operation) (scope : Scope) (first : ℕ) (entries : List Entry) (old new : Members) (work work' : Work) (left left' : ℕ)
    (who : Who) (end : ℕ) (early : List Event) (IsTaken : ℕ → Type 0) (event : Event)
    → IsStill tells given tape scope first entries old work left → HasLiveSlot old → IsCallGoing entries who → IsFalse (who.caller == 254) → (tells → end ≡ length tape') → Grows tells tape tape' → IsQuiet event
    → AreAtRest given new → shape_of new.newest ≡ shape_of old.newest → new.newest.size ≡ old.newest.size → (DoWithout new → DoWithout old)
    → AreEarly early IsTaken → AreLostOrMissing old new IsTaken → is_clean new.newest ≡ is_clean old.newest
    → ((slot number : ℕ) → bears work slot number ≡ true → bears work' slot number ≡ true) → is_some work'.resync ≡ is_some work.resync → IfSome work'.resync (λ mended. mended ≤ stripes_of new)
    → IfSome (told_left (entries ++ entries_of who end (early ++ event ∷ []))) (λ n. n ≡ left')
    → (tells → DoWithout new → IsFilledRight (world_in given tape scope first) entries
    → HasListStood (OpensFit (world_in given tape scope first)) work' new (present given tape') (now (opening_list (world_in given tape scope first)) entries))
    → (tells → LeavesNumbers given tape scope first entries old new (bears work) (bears work') false who early (event ∷ []) tape' end)
    → IsStill tells given tape' scope first (entries ++ entries_of who end (early ++ event ∷ [])) new work' left'
placed-stands tells given tape tape' scope first entries old new work work' left left' who end early IsTaken event was live goes caller at_end grows quiet rest shape size before are missing clean carries pends progress =
    tail-stands tells given tape tape' scope first entries old new work work' left left' who end early IsTaken (event ∷ []) was live goes caller at_end grows (quiet-last who end event quiet)
    rest shape size before are missing clean carries pends progress (last_end-behind first entries who end early event)
    (λ t right told safe fit. call-ends_none (world_in given tape' scope first) entries who end (early ++ event ∷ []) (are.ends (event ∷ []) (or-false (ends_reshape event) false quiet.ends refl)))

-- So it is where slots were lost, and no more numbers are known.
pub early-stands : (tells : Type 0) (given : Given) (tape tape' : List Operation) (scope : Scope) (first : ℕ) (entries : List Entry) (old new : Members) (work work' : Work) (left left' : ℕ)
    (who : Who) (end : ℕ) (early : List Event) (IsTaken : ℕ → Type 0) (event : Event)
    → IsStill tells given tape scope first entries old work left → HasLiveSlot old → IsCallGoing entries who → IsFalse (who.caller == 254) → (tells → end ≡ length tape') → Grows tells tape tape' → IsQuiet event
    → IsMoved given old new → AreEarly early IsTaken → AreLostOrMissing old new IsTaken → is_clean new.newest ≡ is_clean old.newest
    → bears work' ≡ bears work → is_some work'.resync ≡ is_some work.resync → IfSome work'.resync (λ mended. mended ≤ stripes_of new)
    → IfSome (told_left (entries ++ entries_of who end (early ++ event ∷ []))) (λ n. n ≡ left')
    → (tells → DoWithout new → IsFilledRight (world_in given tape scope first) entries
    → HasListStood (OpensFit (world_in given tape scope first)) work' new (present given tape') (now (opening_list (world_in given tape scope first)) entries))
    → (tells → LeavesList given tape scope first entries old new (bears work) false who early event tape' end)
    → IsStill tells given tape' scope first (entries ++ entries_of who end (early ++ event ∷ [])) new work' left'
early-stands tells given tape tape' scope first entries old new work work' left left' who end early IsTaken event was live goes caller at_end grows quiet moved are missing clean carries pends progress told listed call =
    placed-stands tells given tape tape' scope first entries old new work work' left left' who end early IsTaken event was live goes caller at_end grows quiet (rest-moved given old new moved was.members_are) moved.shape moved.size
    (without-before given old new moved) are missing clean (λ slot number is. (λ i. carries i slot number) ∙ is) pends progress told listed
    (λ t. subst (λ (c : ℕ → ℕ → Bool). LeavesNumbers given tape scope first entries old new (bears work) c false who early (event ∷ []) tape' end) (sym carries)
    (numbers-of given tape scope first entries old new (bears work) false who early event tape' end (call t)))
