-- A flush, a stop, or the end of a resync, from what `flush_and_mark` leaves; and a flush or a stop that is refused since too many are missing.
use Rattle.std.proofs.Common.{◌≡◌, inl, inr, ℕ, ◌<◌, ◌≤◌, ◌==◌, ◌&&◌, Bool, true, false, not, List, [], ◌∷◌, ◌++◌, length, refl, sym, ◌∙◌, ap, subst, arith}
use Rattle.std.specs.Prelude.{IsFalse, IfSome, IsSome, is_some, ⊤}
use Rattle.array_reshaping_invariant.specs.raid_types_Sectors.{Sector}
use Rattle.array_reshaping_invariant.specs.raid_types_Shapes.{tolerance, tolerance_of}
use Rattle.array_reshaping_invariant.specs.raid_types_the_Refusal.{Refusal}
use Rattle.array_reshaping_invariant.specs.raid_types_the_Who.{Who}
use Rattle.array_reshaping_invariant.specs.raid_types_the_Shape.{Shape}
use Rattle.array_reshaping_invariant.specs.bank_the_Operation.{Operation}
use Rattle.array_reshaping_invariant.specs.bank_Given.{Given}
use Rattle.array_reshaping_invariant.specs.bank_Tape.{Contents, IsIn, disk}
use Rattle.array_reshaping_invariant.specs.sb_specs_the_Members.{Members}
use Rattle.array_reshaping_invariant.specs.sb_specs_Reading.{Scope, is_clean, list_length}
use Rattle.array_reshaping_invariant.proofs.sb_specs_ValidFields.{few-roles}
use Rattle.array_reshaping_invariant.specs.stripe_row_Rows.{present}
use Rattle.array_reshaping_invariant.specs.history_the_Entry.{Entry}
use Rattle.array_reshaping_invariant.specs.history_the_Event.{Event}
use Rattle.array_reshaping_invariant.specs.history_the_Event_TheVariants.{Flushed, Stopped, Refused}
use Rattle.array_reshaping_invariant.specs.history_Flat.{now, values_of}
use Rattle.array_reshaping_invariant.specs.history_Legal.{told_left, IsLegalEvent}
use Rattle.array_reshaping_invariant.specs.history_Losses.{is_resync_end, is_unsynced, unsettles}
use Rattle.array_reshaping_invariant.specs.history_Plain.{entries_of}
use Rattle.array_reshaping_invariant.specs.history_Sound.{OpensFit}
use Rattle.array_reshaping_invariant.specs.history_World.{World, opening_list}
use Rattle.array_reshaping_invariant.specs.crash_views_Regions.{DoWithout}
use Rattle.array_reshaping_invariant.specs.crash_views_Views.{Ledger}
use Rattle.array_reshaping_invariant.specs.crash_safety_laws_Marking.{AreOthersPresent}
use Rattle.array_reshaping_invariant.specs.crash_safety_laws_Safety.{HasLiveSlot, HasRoomLeft, IsRisen}
use Rattle.array_reshaping_invariant.specs.crash_safety_laws_Steady.{IsSafeOver, KeepsSafe, AreGoneTold, IsUncleanTold, AreWritesAllowed, settled_ledger}
use Rattle.array_reshaping_invariant.specs.array_members_the_Work.{Work}
use Rattle.array_reshaping_invariant.specs.array_members_Lacking.{AreLostSince, AreTooMany, synced_rows}
use Rattle.array_reshaping_invariant.specs.array_members_Moving.{Grows, IsMoved}
use Rattle.array_reshaping_invariant.specs.array_members_Numbers.{bears}
use Rattle.array_reshaping_invariant.specs.array_members_Status.{stripes_of}
use Rattle.array_reshaping_invariant.specs.array_members_Under.{StandsUnder, RowsStandUnder}
use Rattle.array_reshaping_invariant.proofs.array_members_Fit.{list-alike}
use Rattle.array_reshaping_invariant.proofs.array_members_HeldRows.{without-before}
use Rattle.array_reshaping_invariant.proofs.array_members_LackingLaws.{never-both}
use Rattle.array_reshaping_invariant.specs.history_append_Losing.{losses_of}
use Rattle.array_reshaping_invariant.proofs.history_append_CallLaws.{losses-are, values-losses}
use Rattle.array_reshaping_invariant.proofs.history_append_LeftLaws.{TellLeft}
use Rattle.array_reshaping_invariant.proofs.array_call_specs_KeptLaws.{left-lost}
use Rattle.array_reshaping_invariant.proofs.sb_safe_updates_Under.{still-under, still-rows-under}
use Rattle.array_reshaping_invariant.specs.history_invariant_Recorded.{IsCallGoing, entry_of, ends_reshape}
use Rattle.array_reshaping_invariant.specs.history_invariant_Safe.{world_in, IsFilledRight}
use Rattle.array_reshaping_invariant.proofs.history_invariant_Entered.{values-more}
use Rattle.array_reshaping_invariant.proofs.history_invariant_Lists.{newest-in}
use Rattle.array_reshaping_invariant.proofs.history_invariant_laws_LastStep.{losses-within}
use Rattle.array_reshaping_invariant.proofs.history_invariant_laws_Behind.{IsAmong, first-of, early-losses, legal-losses}
use Rattle.array_reshaping_invariant.proofs.history_invariant_laws_Quiet.{IsLeftBehind}
use Rattle.array_reshaping_invariant.proofs.history_invariant_laws_Adding.{unsettled-last}
use Rattle.array_reshaping_invariant.proofs.history_invariant_laws_Settling.{IsSettlement, SettlesList, takes-newest, settling-leaves, settled-same}
use Rattle.array_reshaping_invariant.proofs.Settling.{unsynced-then}
use Rattle.array_fixed_invariant.specs.Still.{HasListStood, IsStill}
use Rattle.array_fixed_invariant.proofs.Adding.{changing-stands}
use Rattle.array_fixed_invariant.proofs.Ends.{EndsPlans, ends-right}
use Rattle.array_fixed_invariant.proofs.Leaving.{safe-over, safe-now, rest-moved, none-taken, leaves-stands}
use Rattle.array_fixed_invariant.proofs.Refusals.{too-many-refused, refused-right, unsynced-behind}
use Rattle.array_fixed_invariant.proofs.Staying.{missing-since, progress-same}
use Rattle.array_fixed_invariant.proofs.Stood.{stood-moved}

-- What `flush_and_mark` leaves, in an array that is unsynced behind it or not: none but superblocks is written, and each mark is safe.
pub record IsFlushedStill (tells : Type 0) (given : Given) (tape tape' : List Operation) (old new : Members) (roles spares : ℕ) (before after : ℕ → ℕ) (unsynced : Bool) : Type 0 where
  pub moved : IsMoved given old new
  pub since : AreLostSince old new roles spares before after
  pub grows : Grows tells tape tape'
  pub rise : tells → IsRisen ⊤ old new tape tape'
  pub others : tells → AreOthersPresent (present given tape) (present given tape')
  pub safe : tells → (world : World) → (told : Ledger) → HasRoomLeft old tape tape' → AreGoneTold told new → IsUncleanTold told old → (list : ℕ → Sector)
      → (DoWithout old → StandsUnder world.scope old (present given tape) (disk given.start tape) list)
      → (unsynced ≡ false → DoWithout old → OpensFit world → RowsStandUnder world.scope old (present given tape) (disk given.start tape) list)
      → AreWritesAllowed old told.values list → IsSafeOver world given told old tape → KeepsSafe world given told new tape tape'

-- what it leaves where it is done
pub record IsSettledStill (tells : Type 0) (given : Given) (tape tape' : List Operation) (old new : Members) (unsynced : Bool) : Type 0 where
  pub clean : unsynced ≡ false → is_clean new.newest ≡ true
  pub stays : unsynced ≡ true → is_clean new.newest ≡ is_clean old.newest
  pub settled : tells → (world : World) → (told : Ledger) → HasRoomLeft old tape tape' → AreGoneTold told new → IsUncleanTold told old → (DoWithout old → unsynced ≡ true → is_clean old.newest ≡ false) → (list : ℕ → Sector)
      → (DoWithout old → StandsUnder world.scope old (present given tape) (disk given.start tape) list)
      → (unsynced ≡ false → DoWithout old → OpensFit world → RowsStandUnder world.scope old (present given tape) (disk given.start tape) list)
      → AreWritesAllowed old told.values list → IsSafeOver world given told old tape → IsSafeOver world given (settled_ledger unsynced list told) new tape'

-- a flush and a stop settle
pub flush-is : IsSettlement Flushed
flush-is = takes-newest Flushed refl (λ n. refl) (λ n. refl) (λ x values. refl)

pub stop-is : IsSettlement Stopped
stop-is = takes-newest Stopped refl (λ n. refl) (λ n. refl) (λ x values. refl)

module _ (tells : Type 0) (given : Given) (tape tape' : List Operation) (scope : Scope) (first : ℕ) (entries : List Entry) (old new : Members) (work : Work) (left : ℕ)
    (who : Who) (end roles spares : ℕ) (before after : ℕ → ℕ) (unsynced : Bool)
    (was : IsStill tells given tape scope first entries old work left) (live : HasLiveSlot old) (goes : IsCallGoing entries who) (caller : IsFalse (who.caller == 254)) (at_end : tells → end ≡ length tape')
    (all : unsynced ≡ false → old.newest.size ≤ synced_rows work.resync old)
    (did : IsFlushedStill tells given tape tape' old new roles spares before after unsynced) where
  abbrev world : World
  world = world_in given tape scope first

  abbrev current : ℕ → Sector
  current = now (opening_list (world_in given tape scope first)) entries

  -- the list stands whichever header a stop leaves
  under : tells → IsFilledRight (world_in given tape scope first) entries → DoWithout old → StandsUnder scope old (present given tape) (disk given.start tape) (now (opening_list (world_in given tape scope first)) entries)
  under t fills does = still-under scope given old (present given tape) (disk given.start tape) current was.members_are.placed was.members_are.still (was.listed t does fills).stands

  rows-under : tells → IsFilledRight (world_in given tape scope first) entries → unsynced ≡ false → DoWithout old → OpensFit (world_in given tape scope first)
      → RowsStandUnder scope old (present given tape) (disk given.start tape) (now (opening_list (world_in given tape scope first)) entries)
  rows-under t fills synced does fit = still-rows-under scope given old (present given tape) (disk given.start tape) current was.members_are.placed was.members_are.still
      (λ row low. (was.listed t does fills).rows fit row (let most = all synced in omega (arith, low, most)) low)

  -- and does on the members that are left
  still-listed : tells → DoWithout new → IsFilledRight (world_in given tape scope first) entries
      → HasListStood (OpensFit (world_in given tape scope first)) work new (present given tape') (now (opening_list (world_in given tape scope first)) entries)
  still-listed t does fills = stood-moved (OpensFit world) work given old new (present given tape) (present given tape') current did.moved was.members_are.placed (did.others t)
      (was.listed t (without-before given old new did.moved does) fills)

  -- ---- one that is done

  -- it may end a resync: then another work is under way behind it, by which the list stands too
  pub settled-stands : (work' : Work) (left' : ℕ) (event : Event) → IsSettledStill tells given tape tape' old new unsynced → IsSettlement event → EndsPlans tells (world_in given tape scope first) entries new work' event
      → bears work' ≡ bears work → unsynced ≡ is_some work'.resync → (unsynced ≡ true → IsSome work.resync) → IfSome work'.resync (λ mended. mended ≤ stripes_of new)
      → (tells → (is_unsynced (world_in given tape scope first) entries && not (is_resync_end event)) ≡ unsynced)
      → IfSome (told_left (entries ++ entries_of who end (losses_of roles spares ++ event ∷ []))) (λ n. n ≡ left')
      → ((sound : Type 0) (c : Contents) (list : ℕ → Sector) → HasListStood sound work new c list → HasListStood sound work' new c list)
      → (tells → IsLegalEvent (world_in given tape' scope first) (entries ++ entries_of who end (losses_of roles spares)) (entry_of who end event) [] event)
      → IsStill tells given tape' scope first (entries ++ entries_of who end (losses_of roles spares ++ event ∷ [])) new work' left'
  settled-stands work' left' event done settling free carries pends waits progress unsynced_is told again legal =
      leaves-stands tells given tape tape' scope first entries (entries ++ added) old new work work' left left' was did.grows (rest-moved given old new did.moved was.members_are) (ap (λ (s : Shape). s.level) did.moved.shape)
      (list-alike old.newest new.newest did.moved.reshape did.moved.shape did.moved.size) told progress
      (λ t. unsynced-then (world_in given tape scope first) entries who end roles spares event ∙ unsynced_is t ∙ pends)
      (λ does is. done.stays (pends ∙ is) ∙ was.dirty (without-before given old new did.moved does) (waits (pends ∙ is)))
      (λ t does fills. subst (λ (l : ℕ → Sector). HasListStood (OpensFit (world_in given tape scope first)) work' new (present given tape') l) (sym same)
      (again (OpensFit (world_in given tape scope first)) (present given tape') current (still-listed t does fills)))
      (none-taken tells given tape tape' scope first entries old new who end (losses_of roles spares ++ event ∷ []) (IsAmong roles) did.grows (λ u. (was.recorded u).ends) (few-roles new.newest did.moved.placed.fit.valid)
      (missing-since did.moved did.since) (λ role lt has. (early-losses roles spares).lost who end (event ∷ []) role lt has) was.full)
      (λ t. subst (λ (c : ℕ → ℕ → Bool). IsLeftBehind given tape scope first entries (entries ++ added) new c false tape') (sym carries) (leaves t))
    where
      added : List Entry
      added = entries_of who end (losses_of roles spares ++ event ∷ [])

      same : now (opening_list (world_in given tape scope first)) (entries ++ entries_of who end (losses_of roles spares ++ event ∷ [])) ≡ now (opening_list (world_in given tape scope first)) entries
      same = λ i x. settled-same (opening_list (world_in given tape scope first)) entries who end roles spares event settling x i

      Then : List Operation → ℕ → Type 0
      Then l e = SettlesList given tape scope first entries old new (bears work) false unsynced who roles spares event l e
          → IsLeftBehind given tape scope first entries (entries ++ entries_of who e (losses_of roles spares ++ event ∷ [])) new (bears work) false l

      call : tells → SettlesList given tape scope first entries old new (bears work) false unsynced who roles spares event tape' end
      call t = record {
        rise = did.rise t;
        keeps = λ told_so fills more allowed room gone unclean safe. did.safe t (world_in given tape scope first) told_so room gone unclean current (under t fills) (rows-under t fills) allowed safe;
        settled = λ told_so fills more allowed room gone unclean safe. record {
          list = current;
          is = λ x lt. refl;
          safe = done.settled t (world_in given tape scope first) told_so room gone unclean (λ does is. was.dirty does (waits is)) current (under t fills) (rows-under t fills) allowed safe;
        };
        legal = λ fills gone level. legal t;
        reshaped = ends-right tells given tape scope first entries new work' (bears work) false who (losses_of roles spares) event [] (losses-are roles spares) refl refl free (rest-moved given old new did.moved was.members_are)
            (λ u. (was.recorded u).begun) (λ u. (was.recorded u).ends) current end did.grows at_end
            (λ u does right fit. (again (OpensFit (world_in given tape scope first)) (present given tape') current (still-listed u does right.fills)).rows fit) t;
      }

      leaves : tells → IsLeftBehind given tape scope first entries (entries ++ entries_of who end (losses_of roles spares ++ event ∷ [])) new (bears work) false tape'
      leaves t =
          let g = did.grows.more t in
          subst (λ (l : List Operation). Then l end) (sym g.1)
          (subst (Then (tape ++ g.0)) (sym (at_end t ∙ ap (λ (l : List Operation). length l) g.1))
          (settling-leaves given tape scope first entries old new (bears work) false unsynced who roles spares event g.0 goes caller settling (few-roles new.newest did.moved.placed.fit.valid)
          (missing-since did.moved did.since) (list-alike old.newest new.newest did.moved.reshape did.moved.shape did.moved.size) done.clean was.sizes_are (unsynced_is t)
          (was.gone t) (was.unclean t) (was.recorded t) (safe-over was live t) (safe-now was live t)))
          (call t)

  -- an event that leaves what is under way
  settled-alike : (left' : ℕ) (event : Event) → IsSettledStill tells given tape tape' old new unsynced → unsynced ≡ is_some work.resync → (losses_of roles spares ≡ [] → left' ≡ left)
      → IsSettlement event → ends_reshape event ≡ false → is_resync_end event ≡ false → TellLeft left' who end (event ∷ []) → ((world : World) (before : List Entry) (e : Entry) → IsLegalEvent world before e [] event)
      → IsStill tells given tape' scope first (entries ++ entries_of who end (losses_of roles spares ++ event ∷ [])) new work left'
  settled-alike left' event done pends alike settling ends resync tell legal =
      settled-stands work left' event done settling (inl ends) refl pends (λ is. sym pends ∙ is) (progress-same did.moved work.resync was.progress)
      (λ t. not-ended (is_unsynced (world_in given tape scope first) entries) (is_resync_end event) resync ∙ was.pending t ∙ sym pends)
      (left-lost left left' entries who end (losses_of roles spares) (event ∷ []) (losses-are roles spares) alike was.left_told tell)
      (λ sound c list l. l)
      (λ t. legal (world_in given tape' scope first) (entries ++ entries_of who end (losses_of roles spares)) (entry_of who end event))
    where
      not-ended : (waits ends : Bool) → ends ≡ false → (waits && not ends) ≡ waits
      not-ended true false is = refl
      not-ended false false is = refl
      not-ended waits true is = absurd (cc)

  -- a flush, and a stop
  pub flushed-stands : (left' : ℕ) → IsSettledStill tells given tape tape' old new unsynced → unsynced ≡ is_some work.resync → (losses_of roles spares ≡ [] → left' ≡ left)
      → IsStill tells given tape' scope first (entries ++ entries_of who end (losses_of roles spares ++ Flushed ∷ [])) new work left'
  flushed-stands left' done pends alike = settled-alike left' Flushed done pends alike flush-is refl refl (λ told is. is) (λ world before e. tt)

  pub stopped-stands : (left' : ℕ) → IsSettledStill tells given tape tape' old new unsynced → unsynced ≡ is_some work.resync → (losses_of roles spares ≡ [] → left' ≡ left)
      → IsStill tells given tape' scope first (entries ++ entries_of who end (losses_of roles spares ++ Stopped ∷ [])) new work left'
  stopped-stands left' done pends alike = settled-alike left' Stopped done pends alike stop-is refl refl (λ told is. is) (λ world before e. tt)

  -- ---- one that is refused

  pub unflushed-stands : (left' : ℕ) (refusal : Refusal) → AreTooMany new refusal → (losses_of roles spares ≡ [] → left' ≡ left)
      → IsStill tells given tape' scope first (entries ++ entries_of who end (losses_of roles spares ++ Refused refusal ∷ [])) new work left'
  unflushed-stands left' refusal many alike =
      changing-stands tells given tape tape' scope first entries old new work left left' who end (losses_of roles spares) (IsAmong roles) (Refused refusal) was live goes caller at_end did.grows
      (record { adds = refl; gives = refl; ends = refl; level = λ n. refl; other = refl }) did.moved (first-of (early-losses roles spares)) (missing-since did.moved did.since)
      (λ dirty. inr (unsettled-last who end (losses_of roles spares) (Refused refusal) (unsettled refusal many)))
      (λ does. absurd (never-both new refusal does many))
      (left-lost left left' entries who end (losses_of roles spares) (Refused refusal ∷ []) (losses-are roles spares) alike was.left_told (λ told is. is))
      (λ t does. absurd (never-both new refusal does many))
      (λ t. record {
        within = losses-within (list_length old.newest) (losses_of roles spares) (Refused refusal ∷ []) (losses-are roles spares) (tt, tt);
        rise = did.rise t;
        keeps = λ told_so reliable all_gone fills more allowed room gone unclean unsettles_so safe.
            did.safe t (world_in given tape scope first) told_so room gone unclean current (under t fills) (rows-under t fills)
            (λ x lt. allowed x (current x) (held t x lt)) safe;
        legal = λ fills gone level. legal-losses (world_in given tape' scope first) entries who end (losses_of roles spares) (Refused refusal ∷ []) (losses-are roles spares) (
          refused-right (world_in given tape' scope first) (entries ++ entries_of who end (losses_of roles spares)) given new did.moved.placed work.resync gone
              (ap tolerance_of level ∙ was.levelled t fills ∙ ap tolerance (sym did.moved.shape))
              (unsynced-behind tells given tape tape' scope first entries who end roles spares did.grows (λ u. (was.recorded u).begun) t ∙ was.pending t) refusal (too-many-refused work.resync new refusal many),
          tt,
          tt,
        );
      })
    where
      unsettled : (refusal : Refusal) → AreTooMany new refusal → unsettles (Refused refusal) ≡ true
      unsettled refusal (inl many) = subst (λ (r : Refusal). unsettles (Refused r) ≡ true) (sym many.told) refl
      unsettled refusal (inr many) = subst (λ (r : Refusal). unsettles (Refused r) ≡ true) (sym many.1.told) refl

      -- each sector may have what it has
      held : tells → (x : ℕ) → x < list_length old.newest
          → IsIn (values_of (opening_list (world_in given tape scope first)) (entries ++ entries_of who end (losses_of roles spares ++ Refused refusal ∷ [])) x) (now (opening_list (world_in given tape scope first)) entries x)
      held t x lt = subst (λ (l : List Sector). IsIn l (now (opening_list (world_in given tape scope first)) entries x))
          (sym (values-more (opening_list (world_in given tape scope first)) entries (entries_of who end (losses_of roles spares ++ Refused refusal ∷ [])) x
          ∙ values-losses who end (losses_of roles spares) (Refused refusal ∷ []) (losses-are roles spares) x (values_of (opening_list (world_in given tape scope first)) entries x)))
          (newest-in (opening_list (world_in given tape scope first)) entries x (let size = (was.recorded t).sized in omega (arith, lt, size)))
