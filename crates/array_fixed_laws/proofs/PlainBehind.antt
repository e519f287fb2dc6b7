-- What an array keeps of a history of one shape, by calls that lose slots at most, and by those that enter one event alone.
use Rattle.std.proofs.Common.{◌≡◌, ◌≢◌, ◌⊎◌, inl, inr, ℕ, ◌+◌, ◌-◌, ◌*◌, ◌/◌, ◌<◌, ◌≤◌, min, Bool, true, false, not, is_some, Option, Some, None, List, [], ◌∷◌, ◌++◌, length, refl, sym, ◌∙◌, ap, subst, arith, append-nil, append_assoc}
use Rattle.std.specs.Prelude.{IfSome, IsSome, MatchOption, ⊤}
use Rattle.std.specs.List.{list_any}
use Rattle.std.proofs.Math.Nat.{le_trans}
use Rattle.std.proofs.lemmas.List.Elements.{All-nil, All-cons}
use Rattle.array_fixed_invariant.specs.raid_types_Sectors.{Sector, sectors_of}
use Rattle.array_fixed_invariant.specs.raid_types_Shapes.{tolerance}
use Rattle.array_specs.specs.raid_types_the_Refusal.{Refusal}
use Rattle.array_specs.specs.raid_types_the_Refusal_TheVariants.{TooManyMissing, BackupFault, Nothing}
use Rattle.array_fixed_invariant.specs.raid_types_the_Who.{Who}
use Rattle.array_fixed_invariant.specs.raid_types_the_Shape.{Shape}
use Rattle.array_fixed_invariant.specs.raid_types_the_Role.{Role}
use Rattle.array_fixed_invariant.specs.raid_types_the_Role_TheVariants.{Whole, Recovering, Missing}
use Rattle.array_specs.specs.raid_types_the_Status.{Status}
use Rattle.array_specs.proofs.raid_types_SectorLaws.{length-sectors_of}
use Rattle.array_fixed_invariant.specs.bank_the_Operation.{Operation}
use Rattle.array_fixed_invariant.specs.bank_Given.{Given}
use Rattle.array_fixed_invariant.proofs.raid_layout_Limits.{limited}
use Rattle.array_fixed_invariant.specs.raid_parity_Rows.{sector_of}
use Rattle.array_fixed_invariant.specs.sb_specs_the_Members.{Members}
use Rattle.array_fixed_invariant.specs.sb_specs_Reading.{Scope, shape_of, list_length, role_state, is_whole, holder}
use Rattle.array_fixed_invariant.specs.sb_specs_Reads.{has_spare}
use Rattle.array_fixed_invariant.proofs.sb_specs_ValidFields.{few-roles}
use Rattle.array_fixed_invariant.specs.stripe_row_Rows.{reading_of, present}
use Rattle.array_fixed_invariant.specs.history_the_Entry.{Entry}
use Rattle.array_fixed_invariant.specs.history_the_Event.{Event}
use Rattle.array_fixed_invariant.specs.history_the_Event_TheVariants.{Read, Wrote, Torn, Shown, Halted, Step, Stepped, Refused}
use Rattle.array_fixed_invariant.specs.history_the_StepKind.{StepKind}
use Rattle.array_fixed_invariant.specs.history_Flat.{visible_of}
use Rattle.array_fixed_invariant.specs.history_Legal.{told_left}
use Rattle.array_fixed_invariant.specs.history_Losses.{is_unsynced, is_resync_end}
use Rattle.array_fixed_invariant.specs.history_OneShape.{opening_in, is_gone_now, is_spare_now, EndsIdleSteps, IsNothingLeft, IsIdleStep, IsOneShapeEvent, IsOneShapeRefusal}
use Rattle.array_fixed_invariant.specs.history_Plain.{entries_of}
use Rattle.array_fixed_invariant.specs.history_Sound.{FillsRight, LosesNoRole}
use Rattle.array_fixed_invariant.specs.history_World.{World, opening_list}
use Rattle.array_fixed_invariant.proofs.history_laws_OneShapeGrowing.{IsOneShapeCall, call-faults}
use Rattle.array_fixed_invariant.specs.crash_views_Regions.{DoWithout}
use Rattle.array_fixed_invariant.specs.array_members_the_Work.{Work}
use Rattle.array_fixed_invariant.specs.array_members_Lacking.{lacking, AreLostSince, AreTooMany, LacksTooMany, IsUnread, IsUnwritten, ListStands, RowsStandBelow, are_synced, synced_rows}
use Rattle.array_fixed_invariant.specs.array_members_Moving.{Grows, IsMoved}
use Rattle.array_fixed_invariant.specs.array_members_Placed.{AreWhole, IsPlaced, is_unassigned, places_of}
use Rattle.array_fixed_invariant.specs.array_members_Status.{stripes_of, vacant_count, spare_count, resync_left, recovery_left, left_of}
use Rattle.array_fixed_invariant.specs.array_members_Whole.{list_size}
use Rattle.array_fixed_invariant.proofs.array_members_Fit.{valid}
use Rattle.array_fixed_invariant.proofs.array_members_LackingLists.{row-sector}
use Rattle.array_fixed_invariant.proofs.crash_views_Stands.{list-still}
use Rattle.array_fixed_invariant.specs.history_append_Losing.{losses_of, failure_events}
use Rattle.array_fixed_invariant.proofs.history_append_CallLaws.{GivesNone, losses-are, all-losses, ends-losses}
use Rattle.array_fixed_invariant.proofs.history_append_LeftLaws.{keeps-left}
use Rattle.array_fixed_invariant.proofs.history_append_PlainLaws.{one}
use Rattle.array_fixed_invariant.proofs.history_append_StepLaws.{faults-are, call-stepped}
use Rattle.array_fixed_invariant.specs.array_call_specs_Calls.{IsSettling, IsRefusedHere, IsRefusedFor, IsUnmendable}
use Rattle.array_fixed_invariant.specs.array_call_specs_Kept.{AreTold}
use Rattle.array_fixed_invariant.proofs.array_call_specs_DegradedLaws.{told-since, refusal-right, too-many-here, unread-here, unwritten-here, refused-here, pending-of, within-count}
use Rattle.array_fixed_invariant.proofs.array_call_specs_KeptLaws.{left-lost}
use Rattle.array_fixed_invariant.proofs.array_call_specs_NowLaws.{sectors_of-at}
use Rattle.array_fixed_invariant.proofs.array_call_specs_OnlyLaws.{MakeSpares, only-more, only-since}
use Rattle.array_fixed_invariant.proofs.array_call_specs_ReadyLaws.{settles-of}
use Rattle.array_fixed_invariant.proofs.array_call_specs_RecordLaws.{told-more}
use Rattle.array_fixed_invariant.specs.reshape_request_the_PhasesLeft.{PhasesLeft}
use Rattle.array_fixed_invariant.specs.reshape_request_Left.{phases_of}
use Rattle.array_fixed_invariant.specs.history_invariant_Recorded.{IsCallGoing}
use Rattle.array_fixed_invariant.specs.history_invariant_Safe.{world_in}
use Rattle.array_specs.specs.Parts.{visible_size, still_left}
use Rattle.array_specs.specs.Plans.{turns_shape, KeepsShape}
use Rattle.array_specs.proofs.VisibleLaws.{visible-within}
use Rattle.array_fixed_invariant.specs.Still.{AreAtRest}
use Rattle.array_fixed_invariant.proofs.Reading.{visible-behind, now-behind}
use Rattle.array_fixed_invariant.proofs.array_call_specs_IdleLaws.{recovered-none, counted-none, min-none, no-resync, times-none}
use Rattle.array_fixed_invariant.proofs.array_call_specs_LedgerLaws.{unsynced-more}
use Rattle.array_fixed_laws.specs.Plain.{MayTellPlainly, AreToldPlainly, IsPlainKept}
use Rattle.array_fixed_laws.specs.Ready.{IsReady}
use Rattle.array_fixed_laws.specs.Steps.{IsEndedRight, MayEndNow, IsStepsReplyNow}
use Rattle.array_fixed_laws.proofs.Plain.{IsLeftPlain, filled-right, turned-plain, turns-first, plain-called}
use Rattle.array_fixed_laws.proofs.Reading.{seen, read-holds}

-- ---- refusals

-- a refusal by what is missing, or asked for, is none of a reshape
pub here-plainly : (visible : ℕ) (resync : Option ℕ) (m : Members) (refusal : Refusal) → IsRefusedHere visible resync m refusal → MayTellPlainly (Refused refusal)
here-plainly visible resync m BackupFault why = absurd why
here-plainly visible resync m refusal why = tt

-- a refusal that ends steps is one of what is missing or not synced
ended-plainly : (m : Members) (refusal : Refusal) → IsUnmendable m refusal → EndsIdleSteps refusal
ended-plainly m refusal (inl (inl many)) = subst EndsIdleSteps (sym many.told) tt
ended-plainly m refusal (inl (inr many)) = subst EndsIdleSteps (sym many.1.told) tt
ended-plainly m refusal (inr lacked) = subst EndsIdleSteps (sym lacked.1) tt

-- why a step is refused
pub step-here : (given : Given) (m : Members) → IsPlaced given m → (visible : ℕ) (refusal : Refusal) (resync : Option ℕ) → IsUnmendable m refusal → (resync ≡ None → AreTooMany m refusal) → IsRefusedHere visible resync m refusal
step-here given m placed visible refusal None why many = too-many-here visible None m refusal (many refl)
step-here given m placed visible refusal (Some mended) (inl why) many = too-many-here visible (Some mended) m refusal why
step-here given m placed visible refusal (Some mended) (inr lacked) many =
    subst (IsRefusedHere visible (Some mended) m) (sym lacked.1) (refl, within-count given m placed lacked.0 lacked.4.0, lacked.3)

-- too many are missing of a shape that is the array's
pub lacks-here : (visible : ℕ) (resync : Option ℕ) (shape : Shape) (m : Members) (refusal : Refusal) → shape ≡ shape_of m.newest → LacksTooMany shape m refusal → IsRefusedHere visible resync m refusal
lacks-here visible resync shape m refusal same lacks = too-many-here visible resync m refusal (inl (subst (λ (s : Shape). LacksTooMany s m refusal) same lacks))

module _ (given : Given) (m : Members) (rest : AreAtRest given m) (resync : Option ℕ) (visible : ℕ) where
  long : list_length m.newest ≡ list_size (places_of m)
  long = list-still m.newest rest.still

  -- why sectors aren't read
  pub unread-plain : (at count : ℕ) (refusal : Refusal) → at + count ≤ list_length m.newest → IsUnread (shape_of m.newest) (synced_rows resync m) at count m refusal → IsRefusedHere visible resync m refusal
  unread-plain at count refusal within why =
      unread-here given visible at count (synced_rows resync m) resync m refusal rest.placed (subst (λ (n : ℕ). at + count ≤ n) long within) (λ none. ap (λ (o : Option ℕ). synced_rows o m) none) why

  -- and why they aren't written
  pub unwritten-plain : (to : ℕ) (refusal : Refusal) → to ≤ list_length m.newest → IsUnwritten (shape_of m.newest) (are_synced (shape_of m.newest) (synced_rows resync m) to) m refusal → IsRefusedHere visible resync m refusal
  unwritten-plain to refusal within why =
      unwritten-here given visible resync (are_synced (shape_of m.newest) (synced_rows resync m) to) m refusal rest.placed (pending-of m resync to (subst (λ (n : ℕ). to ≤ n) long within)) why

-- why a write isn't done, by the members that it leaves
pub put-plain : (given : Given) (old new : Members) → AreAtRest given old → IsMoved given old new → (resync : Option ℕ) (visible to : ℕ) (shape : Shape) (synced : Bool) (refusal : Refusal) → shape ≡ shape_of old.newest
    → synced ≡ are_synced (shape_of old.newest) (synced_rows resync old) to → to ≤ list_length old.newest → IsUnwritten shape synced new refusal → IsRefusedHere visible resync new refusal
put-plain given old new rest moved resync visible to shape synced refusal same asked within why =
    unwritten-here given visible resync synced new refusal moved.placed (λ none. pending-of old resync to (subst (λ (n : ℕ). to ≤ n) (list-still old.newest rest.still) within) (sym asked ∙ none))
    (subst (λ (s : Shape). IsUnwritten s synced new refusal) (same ∙ sym moved.shape) why)

-- why a stripe of a pending resync isn't mended
pub unmended-plain : (given : Given) (old new : Members) → IsMoved given old new → (resync : Option ℕ) (visible stripe : ℕ) (shape : Shape) (refusal : Refusal) → shape ≡ shape_of old.newest → resync ≡ Some stripe
    → IsUnwritten shape false new refusal → IsRefusedHere visible resync new refusal
unmended-plain given old new moved resync visible stripe shape refusal same pending why =
    unwritten-here given visible resync false new refusal moved.placed (λ none. subst IsSome (sym pending) refl) (subst (λ (s : Shape). IsUnwritten s false new refusal) (same ∙ sym moved.shape) why)

-- ---- behind losses

module _ {tells : Type 0} {given : Given} {tape tape' : List Operation} {scope : Scope} {first : ℕ} {entries : List Entry} {old new : Members} {work : Work} {ahead : PhasesLeft} {limit : Option ℕ} {faults : ℕ → ℕ}
    {steps room rows buffer far_rows far_buffer roles spares : ℕ} {before after : ℕ → ℕ} (was : IsReady tells given tape scope first entries old work ahead limit faults steps room rows buffer far_rows far_buffer)
    (who : Who) (end : ℕ) (goes : IsCallGoing entries who) (caller : who.caller ≢ 254) (at_end : tells → end ≡ length tape') (grows : Grows tells tape tape')
    (moved : IsMoved given old new) (since : AreLostSince old new roles spares before after) where
  abbrev losses : List Event
  losses = losses_of roles spares

  abbrev world : World
  world = world_in given tape scope first

  alone : (P : List Event → Type 0) → P (losses_of roles spares ++ []) → P (losses_of roles spares)
  alone P is = subst P (append-nil (losses_of roles spares)) is

  -- what is missing is told behind them, as many sectors are visible, and a resync is pending as it was
  told-lost : IsPlainKept (world_in given tape scope first) old entries → AreTold new (entries ++ entries_of who end (losses_of roles spares))
  told-lost p = alone (λ (l : List Event). AreTold new (entries ++ entries_of who end l))
      (told-since given old new entries who end roles spares [] before after (few-roles new.newest moved.placed.fit.valid) moved p.told since (λ role. refl))

  pending-lost : tells → is_unsynced (world_in given tape scope first) (entries ++ entries_of who end (losses_of roles spares)) ≡ is_some work.resync
  pending-lost t =
      unsynced-more world entries (entries_of who end losses)
      (alone (λ (l : List Event). list_any (λ e. is_resync_end e.event) (entries_of who end l) ≡ false) (ends-losses who end losses [] (losses-are roles spares)))
      ∙ was.kept.pending t

  seen-lost : tells → visible_of (length (opening_list (world_in given tape scope first))) (entries ++ entries_of who end (losses_of roles spares)) ≡ visible_size old limit
  seen-lost t = visible-behind entries who end roles spares (length (opening_list world)) ∙ seen was.kept was.limited t

  -- a refusal is right behind them, and behind more of the call that leaves that
  refusal-behind : (refusal : Refusal) (visible : ℕ) (all : List Entry) → IsRefusedHere visible work.resync new refusal → IsPlainKept (world_in given tape scope first) old entries → is_unsynced (world_in given tape scope first) all ≡ is_some work.resync
      → visible ≡ visible_of (length (opening_list (world_in given tape scope first))) all → AreTold new all → IsOneShapeRefusal (opening_in (world_in given tape scope first)) all refusal
  refusal-behind refusal visible all why p pending sees told =
      refusal-right world 0 visible work.resync new all refusal (moved.reshape.reshaping ∙ was.kept.members_are.still) (limited (shape_of new.newest) (valid given new moved.placed)).most
      (p.disks ∙ ap (λ (s : Shape). s.disks) (sym moved.shape)) (p.tolerated ∙ ap (λ (s : Shape). tolerance s) (sym moved.shape)) pending sees told why

  plain-losing : (tail : List Event) → GivesNone (entries_of who end tail) → LosesNoRole (entries_of who end tail) → MakeSpares new.spares (entries_of who end tail)
      → (tells → KeepsShape (world_in given tape scope first) (entries ++ entries_of who end (losses_of roles spares ++ tail)) → IsPlainKept (world_in given tape scope first) old entries
      → FillsRight (world_in given tape scope first) (entries ++ entries_of who end (losses_of roles spares ++ tail))
      → IsOneShapeCall (opening_in (world_in given tape scope first)) entries who end (losses_of roles spares ++ tail))
      → AreToldPlainly (entries_of who end tail) → IsLeftPlain tells given tape' scope first entries (entries_of who end (losses_of roles spares ++ tail)) new
  plain-losing tail none loses makes call plainly =
      plain-called was.kept was.plain who end (losses ++ tail) goes caller at_end grows moved.shape
      (λ t p. told-since given old new entries who end roles spares tail before after (few-roles new.newest moved.placed.fit.valid) moved p.told since none)
      (λ t p. only-since given old new entries who end roles spares tail before after moved was.kept.members_are.free since loses makes p.only)
      call (all-losses MayTellPlainly who end roles spares tail (λ role has. tt) (λ slot has. tt) plainly)

  -- an event behind them
  plain-behind : (event : Event) → GivesNone (entries_of who end (event ∷ [])) → LosesNoRole (entries_of who end (event ∷ [])) → MakeSpares new.spares (entries_of who end (event ∷ []))
      → (tells → KeepsShape (world_in given tape scope first) (entries ++ entries_of who end (losses_of roles spares ++ event ∷ [])) → IsPlainKept (world_in given tape scope first) old entries
      → FillsRight (world_in given tape scope first) (entries ++ entries_of who end (losses_of roles spares ++ event ∷ []))
      → IsOneShapeCall (opening_in (world_in given tape scope first)) (entries ++ entries_of who end (losses_of roles spares)) who end (event ∷ []))
      → MayTellPlainly event → IsLeftPlain tells given tape' scope first entries (entries_of who end (losses_of roles spares ++ event ∷ [])) new
  plain-behind event none loses makes call plainly =
      plain-losing (event ∷ []) none loses makes
      (λ t keeps p fills. call-faults (opening_in world) entries who end losses (event ∷ []) (faults-are losses (losses-are roles spares)) (call t keeps p fills))
      (All-cons (λ e. MayTellPlainly e.event) (one who end event) [] plainly (All-nil (λ e. MayTellPlainly e.event)))

  -- they alone
  pub plain-lost : IsLeftPlain tells given tape' scope first entries (entries_of who end (losses_of roles spares)) new
  plain-lost = alone (λ (l : List Event). IsLeftPlain tells given tape' scope first entries (entries_of who end l) new)
      (plain-losing [] (λ role. refl) (λ role. refl) (λ slot spare is. inl is)
      (λ t keeps p fills. call-faults (opening_in world) entries who end losses [] (faults-are losses (losses-are roles spares)) tt) (All-nil (λ e. MayTellPlainly e.event)))

  -- a refusal
  pub plain-refused : (refusal : Refusal) → IsRefusedHere (visible_size old limit) work.resync new refusal
      → IsLeftPlain tells given tape' scope first entries (entries_of who end (losses_of roles spares ++ Refused refusal ∷ [])) new
  plain-refused refusal why =
      plain-behind (Refused refusal) (λ role. refl) (λ role. refl) (λ slot spare is. inl is)
      (λ t keeps p fills. (refusal-behind refusal (visible_size old limit) (entries ++ entries_of who end losses) why p (pending-lost t) (sym (seen-lost t)) (told-lost p), tt, tt))
      (here-plainly (visible_size old limit) work.resync new refusal why)

  -- a flush, or a stop
  pub plain-settled : (event : Event) → IsSettling event → IsLeftPlain tells given tape' scope first entries (entries_of who end (losses_of roles spares ++ event ∷ [])) new
  plain-settled event is =
      let settles = settles-of event is in
      plain-behind event (settles.gives who end) (settles.loses who end) (settles.makes new.spares who end)
      (λ t keeps p fills. settles.call (opening_in world) (entries ++ entries_of who end losses) who end) (by is)
    where
      by : IsSettling event → MayTellPlainly event
      by (inl flushed) = subst MayTellPlainly (sym flushed) tt
      by (inr stopped) = subst MayTellPlainly (sym stopped) tt

  -- a step of a resync or of a rebuild
  pub plain-stepped : (kind : StepKind) (left : ℕ) → IsIdleStep kind → MakeSpares new.spares (entries_of who end (Step kind left ∷ [])) → (losses_of roles spares ≡ [] → left + 1 ≡ still_left work old ahead)
      → IsLeftPlain tells given tape' scope first entries (entries_of who end (losses_of roles spares ++ Step kind left ∷ [])) new
  plain-stepped kind left idle makes less =
      plain-losing (Step kind left ∷ []) (λ role. refl) (λ role. refl) makes
      (λ t keeps p fills. call-stepped (opening_in world) entries who end losses kind left (losses-are roles spares) idle told)
      (All-cons (λ e. MayTellPlainly e.event) (one who end (Step kind left)) [] tt (All-nil (λ e. MayTellPlainly e.event)))
    where
      told : IfSome (told_left (entries ++ entries_of who end (losses_of roles spares))) (λ n. n ≡ left + 1)
      told = alone (λ (l : List Event). IfSome (told_left (entries ++ entries_of who end l)) (λ n. n ≡ left + 1))
          (left-lost (still_left work old ahead) (left + 1) entries who end losses [] (losses-are roles spares) less was.kept.left_told (λ told is. is))

  -- a write
  pub plain-wrote : (at : ℕ) (from : List ℕ) → at + length from / 512 ≤ visible_size old limit
      → IsLeftPlain tells given tape' scope first entries (entries_of who end (losses_of roles spares ++ Wrote at (sectors_of from) ∷ [])) new
  plain-wrote at from within =
      plain-behind (Wrote at (sectors_of from)) (λ role. refl) (λ role. refl) (λ slot spare is. inl is)
      (λ t keeps p fills. (let all = seen-lost t in let n = length-sectors_of from in omega (arith, within, all, n), tt, tt)) tt

  -- one that was torn: more are missing than the array can do without
  plain-torn : (at : ℕ) (from : List ℕ) (count most : ℕ) → at + length from / 512 ≤ visible_size old limit → AreTooMany new (TooManyMissing count most)
      → IsLeftPlain tells given tape' scope first entries (entries_of who end ((losses_of roles spares ++ Torn at (sectors_of from) ∷ []) ++ Refused (TooManyMissing count most) ∷ [])) new
  plain-torn at from count most within many =
      subst (λ (l : List Event). IsLeftPlain tells given tape' scope first entries (entries_of who end l) new) (sym (append_assoc losses (Torn at (sectors_of from) ∷ []) (Refused (TooManyMissing count most) ∷ [])))
      (plain-losing (Torn at (sectors_of from) ∷ Refused (TooManyMissing count most) ∷ []) (λ role. refl) (λ role. refl) (λ slot spare is. inl is)
      (λ t keeps p fills. call-faults (opening_in world) entries who end losses (Torn at (sectors_of from) ∷ Refused (TooManyMissing count most) ∷ []) (faults-are losses (losses-are roles spares)) (
        record { within = (let all = seen-lost t in let n = length-sectors_of from in omega (arith, within, all, n)); refused = tt },
        tt,
        (
          refusal-behind (TooManyMissing count most) (visible_of (length (opening_list world)) ((entries ++ entries_of who end losses) ++ one who end (Torn at (sectors_of from)) ∷ []))
              ((entries ++ entries_of who end losses) ++ one who end (Torn at (sectors_of from)) ∷ []) many p
              (unsynced-more world (entries ++ entries_of who end losses) (one who end (Torn at (sectors_of from)) ∷ []) refl ∙ pending-lost t) refl
              (told-more new (entries ++ entries_of who end losses) (one who end (Torn at (sectors_of from)) ∷ []) (λ role. refl) (told-lost p)),
          tt,
          tt,
        ),
      ))
      (All-cons (λ e. MayTellPlainly e.event) (one who end (Torn at (sectors_of from))) (one who end (Refused (TooManyMissing count most)) ∷ []) tt
      (All-cons (λ e. MayTellPlainly e.event) (one who end (Refused (TooManyMissing count most))) [] tt (All-nil (λ e. MayTellPlainly e.event)))))

  -- one that wasn't done, torn or not
  pub plain-unwritten : (at : ℕ) (from : List ℕ) (shape : Shape) (begun : Bool) (refusal : Refusal) → at + length from / 512 ≤ visible_size old limit → shape ≡ shape_of new.newest
      → IsRefusedHere (visible_size old limit) work.resync new refusal → (begun ≡ true → LacksTooMany shape new refusal)
      → IsLeftPlain tells given tape' scope first entries (entries_of who end (failure_events roles spares begun at (sectors_of from) refusal)) new
  plain-unwritten at from shape false refusal within same why lacks = plain-refused refusal why
  plain-unwritten at from shape true refusal within same why lacks =
      let many = subst (λ (s : Shape). LacksTooMany s new refusal) same (lacks refl) in
      subst (λ (r : Refusal). IsLeftPlain tells given tape' scope first entries (entries_of who end ((losses_of roles spares ++ Torn at (sectors_of from) ∷ []) ++ Refused r ∷ [])) new) (sym many.told)
      (plain-torn at from (lacking (shape_of new.newest) new) (tolerance (shape_of new.newest)) within (inl (record { above = many.above; told = refl })))

  -- a read
  pub plain-read : (at : ℕ) (bytes : List ℕ) → DoWithout old → at + length bytes / 512 ≤ visible_size old limit
      → (tells → (list : ℕ → Sector) → ListStands old (present given tape) list → AreWhole new ⊎ RowsStandBelow (synced_rows work.resync old) old (present given tape) list
      → (i : ℕ) → i < length bytes / 512 → sector_of bytes i ≡ list (at + i))
      → IsLeftPlain tells given tape' scope first entries (entries_of who end (losses_of roles spares ++ Read at (sectors_of bytes) ∷ [])) new
  plain-read at bytes does within holds =
      plain-behind (Read at (sectors_of bytes)) (λ role. refl) (λ role. refl) (λ slot spare is. inl is)
      (λ t keeps p fills. (
        record {
          within = (let all = seen-lost t in let n = length-sectors_of bytes in omega (arith, within, all, n));
          holds = λ i lt.
              let n = length-sectors_of bytes in
              let below : i < length bytes / 512 = omega (arith, lt, n) in
              sectors_of-at i bytes below ∙ sym (row-sector bytes i)
              ∙ read-holds was.kept does who end (Read at (sectors_of bytes)) moved since at bytes holds t (filled-right world (entries ++ entries_of who end (losses ++ Read at (sectors_of bytes) ∷ [])) keeps fills) i below
              ∙ sym (now-behind entries who end roles spares (opening_list world) (at + i));
        },
        tt,
        tt,
      )) tt

-- ---- nothing is left to do

module _ {given : Given} {members : Members} {entries : List Entry} (world : World) (work : Work) (rest : AreAtRest given members) (kept : IsPlainKept world members entries)
    (pending : is_unsynced world entries ≡ is_some work.resync) (none : left_of work members ≡ 0) where
  none-resync : resync_left work.resync members ≡ 0
  none-resync = let low : resync_left work.resync members ≤ 0 = omega (arith, none) in omega (arith, low)

  none-recovery : recovery_left work members (shape_of members.newest).disks ≡ 0
  none-recovery = let low : recovery_left work members (shape_of members.newest).disks ≤ 0 = omega (arith, none) in omega (arith, low)

  none-pairs : min (vacant_count members) (spare_count members) ≡ 0
  none-pairs = times-none (min (vacant_count members) (spare_count members)) (stripes_of members)
      (let low : min (vacant_count members) (spare_count members) * (stripes_of members + 2) ≤ 0 = omega (arith, none) in omega (arith, low))

  -- a role that is gone would have no slot, or one that recovers it
  none-gone : vacant_count members ≡ 0 → (role : ℕ) → role < (shape_of members.newest).disks → is_gone_now entries role ≡ true → ⊥
  none-gone vacant role lt gone = by (role_state (reading_of members) role) refl
    where
      by : (state : Role) → role_state (reading_of members) role ≡ state → ⊥
      by (Whole slot) is = let clash : false ≡ true = sym (ap (λ (s : Role). not (is_whole s)) is) ∙ kept.only.gone role gone in absurd (cc)
      by (Recovering slot) is = recovered-none work members (shape_of members.newest).disks none-recovery role slot lt is
      by Missing is = counted-none (shape_of members.newest).disks (is_unassigned (reading_of members)) vacant role lt (ap (λ (s : Role). not (is_some (holder s))) is)

  none-spare : spare_count members ≡ 0 → (slot : ℕ) → is_spare_now entries slot ≡ true → ⊥
  none-spare spares slot is = let has = kept.only.spares slot is in counted-none 32 (has_spare members.spares) spares slot (rest.free slot has).room.small has

  refuted : (b : Bool) → (b ≡ true → ⊥) → b ≡ false
  refuted true never = absurd (never refl)
  refuted false never = refl

  nothing-left : IsNothingLeft (opening_in world) entries
  nothing-left = record {
    synced = pending ∙ no-resync work.resync members none-resync;
    built = elim (min-none (vacant_count members) (spare_count members) none-pairs) [
      | inl vacant ↦ inl (λ role lt. refuted (is_gone_now entries role) (none-gone vacant role (let same = kept.disks in omega (arith, lt, same))))
      | inr spares ↦ inr (λ slot. refuted (is_spare_now entries slot) (none-spare spares slot))
    ];
  }

none-first : (a b : ℕ) → a + b ≡ 0 → a ≡ 0
none-first a b none = omega (arith, none)

-- ---- one event alone

module _ {tells : Type 0} {given : Given} {tape tape' : List Operation} {scope : Scope} {first : ℕ} {entries : List Entry} {m : Members} {work : Work} {ahead : PhasesLeft} {limit : Option ℕ} {faults : ℕ → ℕ}
    {steps room rows buffer far_rows far_buffer : ℕ} (was : IsReady tells given tape scope first entries m work ahead limit faults steps room rows buffer far_rows far_buffer)
    (who : Who) (end : ℕ) (goes : IsCallGoing entries who) (caller : who.caller ≢ 254) (at_end : tells → end ≡ length tape') (grows : Grows tells tape tape') where
  plain-alone : (event : Event) → GivesNone (entries_of who end (event ∷ [])) → LosesNoRole (entries_of who end (event ∷ [])) → MakeSpares m.spares (entries_of who end (event ∷ []))
      → (tells → IsPlainKept (world_in given tape scope first) m entries → IsOneShapeEvent (opening_in (world_in given tape scope first)) entries (one who end event) [] event) → MayTellPlainly event
      → IsLeftPlain tells given tape' scope first entries (entries_of who end (event ∷ [])) m
  plain-alone event none loses makes right plainly =
      plain-called was.kept was.plain who end (event ∷ []) goes caller at_end grows refl
      (λ t p. told-more m entries (entries_of who end (event ∷ [])) none p.told) (λ t p. only-more m entries (entries_of who end (event ∷ [])) loses makes p.only)
      (λ t keeps p fills. (right t p, tt, tt)) (All-cons (λ e. MayTellPlainly e.event) (one who end event) [] plainly (All-nil (λ e. MayTellPlainly e.event)))

  -- a refusal, that is right by the history
  pub refused-plain : (refusal : Refusal) → (tells → IsPlainKept (world_in given tape scope first) m entries → IsOneShapeRefusal (opening_in (world_in given tape scope first)) entries refusal)
      → MayTellPlainly (Refused refusal) → IsLeftPlain tells given tape' scope first entries (entries_of who end (Refused refusal ∷ [])) m
  refused-plain refusal right plainly = plain-alone (Refused refusal) (λ role. refl) (λ role. refl) (λ slot spare is. inl is) right plainly

  -- or by what is missing, or asked for
  pub here-plain : (refusal : Refusal) → IsRefusedHere (visible_size m limit) work.resync m refusal → IsLeftPlain tells given tape' scope first entries (entries_of who end (Refused refusal ∷ [])) m
  here-plain refusal why =
      refused-plain refusal (right refusal why) (here-plainly (visible_size m limit) work.resync m refusal why)
    where
      right : (refusal : Refusal) → IsRefusedHere (visible_size m limit) work.resync m refusal → tells → IsPlainKept (world_in given tape scope first) m entries → IsOneShapeRefusal (opening_in (world_in given tape scope first)) entries refusal
      right refusal why t p =
          refusal-right (world_in given tape scope first) 0 (visible_size m limit) work.resync m entries refusal was.kept.members_are.still (limited (shape_of m.newest) (valid given m was.kept.members_are.placed)).most
          p.disks p.tolerated (was.kept.pending t) (sym (seen was.kept was.limited t)) p.told why

  -- before anything is done
  pub first-plain : (to : ℕ) (why : Members → Refusal → Type 0) (refusal : Refusal) → (to ≤ list_length m.newest → why m refusal → IsRefusedHere (visible_size m limit) work.resync m refusal)
      → IsRefusedFor (visible_size m limit) to why m m refusal → IsLeftPlain tells given tape' scope first entries (entries_of who end (Refused refusal ∷ [])) m
  first-plain to why refusal here w = here-plain refusal (refused-here (visible_size m limit) to work.resync why m refusal (λ within. here (le_trans within (visible-within (list_length m.newest) limit))) w)

  -- what it tells of itself
  pub shown-plain : (status : Status) → status.left ≡ still_left work m ahead → status.spares ≡ m.spares → IsLeftPlain tells given tape' scope first entries (entries_of who end (Shown status ∷ [])) m
  shown-plain status steps spares =
      plain-alone (Shown status) (λ role. refl) (λ role. refl) (λ slot spare is. inr (subst (λ (l : List ℕ). has_spare l slot ≡ true) spares is))
      (λ t p. (
        keeps-left (still_left work m ahead) entries (one who end (Shown status)) [] status.left was.kept.left_told steps,
        (λ none. nothing-left (world_in given tape scope first) work was.kept.members_are p (was.kept.pending t) (none-first (left_of work m) _ (sym steps ∙ none))),
      )) tt

  -- its end
  pub halted-plain : IsLeftPlain tells given tape' scope first entries (entries_of who end (Halted ∷ [])) m
  halted-plain = plain-alone Halted (λ role. refl) (λ role. refl) (λ slot spare is. inl is) (λ t p. tt) tt

  -- a reply to a request for steps
  pub answered-plain : (event : Event) → IsStepsReplyNow work m ahead event → IsLeftPlain tells given tape' scope first entries (entries_of who end (event ∷ [])) m
  answered-plain (Refused Nothing) reply =
      refused-plain Nothing (λ t p. nothing-left (world_in given tape scope first) work was.kept.members_are p (was.kept.pending t) (none-first (left_of work m) _ reply)) tt
  answered-plain (Stepped done left ended) reply = by ended reply.1
    where
      told : (ended : Option Refusal) → MatchOption ended ⊤ (IsEndedRight work m) → IsLeftPlain tells given tape' scope first entries (entries_of who end (Stepped done left ended ∷ [])) m
      told ended why =
          plain-alone (Stepped done left ended) (λ role. refl) (λ role. refl) (λ slot spare is. inl is)
          (λ t p. (
            (
              keeps-left (still_left work m ahead) entries (one who end (Stepped done left ended)) [] left was.kept.left_told reply.0,
              (λ none. nothing-left (world_in given tape scope first) work was.kept.members_are p (was.kept.pending t) (none-first (left_of work m) _ (sym reply.0 ∙ none))),
            ),
            right ended why t p,
          ))
          (plainly ended why)
        where
          right : (ended : Option Refusal) → MatchOption ended ⊤ (IsEndedRight work m) → tells → IsPlainKept (world_in given tape scope first) m entries
              → IfSome ended (IsOneShapeRefusal (opening_in (world_in given tape scope first)) entries)
          right None why t p = tt
          right (Some refusal) why t p =
              refusal-right (world_in given tape scope first) 0 (visible_size m limit) work.resync m entries refusal was.kept.members_are.still (limited (shape_of m.newest) (valid given m was.kept.members_are.placed)).most
              p.disks p.tolerated (was.kept.pending t) (sym (seen was.kept was.limited t)) p.told
              (step-here given m was.kept.members_are.placed (visible_size m limit) refusal work.resync why.0 why.1)

          plainly : (ended : Option Refusal) → MatchOption ended ⊤ (IsEndedRight work m) → IfSome ended EndsIdleSteps
          plainly None why = tt
          plainly (Some refusal) why = ended-plainly m refusal why.0

      -- phases are ahead, so that a plan was told
      turned : phases_of ahead ≢ [] → list_any (λ e. turns_shape e.event) entries ≡ true
      turned ahead_some = elim was.ahead_told [ inl none ↦ absurd (ahead_some none) | inr was_told ↦ was_told ]

      by : (ended : Option Refusal) → MatchOption ended ⊤ (MayEndNow work m ahead) → IsLeftPlain tells given tape' scope first entries (entries_of who end (Stepped done left ended ∷ [])) m
      by None why = told None tt
      by (Some refusal) (inl why) = told (Some refusal) why
      by (Some refusal) (inr begins) = turned-plain (turns-first entries (entries_of who end (Stepped done left (Some refusal) ∷ [])) (turned begins.1))
  answered-plain event reply = absurd reply
