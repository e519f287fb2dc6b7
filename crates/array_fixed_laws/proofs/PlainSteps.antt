-- What an array keeps of a history of one shape, by each step of a resync and of a rebuild.
use Rattle.std.proofs.Common.{◌≡◌, ◌≢◌, ◌⊎◌, inl, inr, ℕ, ◌+◌, ◌<◌, ◌≤◌, ◌&&◌, ◌||◌, ◌==◌, eq-eqb, Bool, true, false, not, is_some, Option, Some, None, List, [], ◌∷◌, ◌++◌, length, refl, sym, ◌∙◌, ap, subst, arith, append-nil, append_assoc}
use Rattle.std.specs.Prelude.{IfSome, IsTrue}
use Rattle.std.specs.List.{list_any}
use Rattle.std.proofs.lemmas.Bool.{cases_eq}
use Rattle.std.proofs.lemmas.Bool.Decides.{nat_tests}
use Rattle.std.proofs.lemmas.List.Elements.{All-nil, All-cons}
use Rattle.std.proofs.lemmas.List.Sums.{fold-append}
use Rattle.array_fixed_invariant.specs.raid_types_the_Who.{Who}
use Rattle.array_fixed_invariant.specs.raid_types_the_Role.{Role}
use Rattle.array_fixed_invariant.specs.raid_types_the_Role_TheVariants.{Whole, Recovering}
use Rattle.array_fixed_invariant.specs.bank_the_Operation.{Operation}
use Rattle.array_fixed_invariant.specs.bank_Given.{Given}
use Rattle.array_fixed_invariant.specs.sb_specs_the_Members.{Members}
use Rattle.array_fixed_invariant.specs.sb_specs_Reading.{Scope, shape_of, role_state, is_whole, holder}
use Rattle.array_fixed_invariant.specs.sb_specs_Reads.{has_spare}
use Rattle.array_fixed_invariant.proofs.sb_specs_ValidFields.{few-roles}
use Rattle.array_fixed_invariant.specs.stripe_row_Rows.{reading_of, is_missing}
use Rattle.array_fixed_invariant.specs.history_the_Entry.{Entry}
use Rattle.array_fixed_invariant.specs.history_the_Event.{Event}
use Rattle.array_fixed_invariant.specs.history_the_Event_TheVariants.{Step, Rebuilt}
use Rattle.array_fixed_invariant.specs.history_the_StepKind_TheVariants.{ResyncStripe, ResyncEnded, RebuildTaken, RebuildStripe, RebuildEnded}
use Rattle.array_fixed_invariant.specs.history_Legal.{told_left}
use Rattle.array_fixed_invariant.specs.history_OneShape.{opening_in, gives_role, is_gone_now, is_gone_with, is_spare_now}
use Rattle.array_fixed_invariant.specs.history_Plain.{entries_of}
use Rattle.array_fixed_invariant.proofs.history_laws_OneShapeGrowing.{gone-more}
use Rattle.array_fixed_invariant.specs.crash_views_Regions.{DoWithout}
use Rattle.array_fixed_invariant.specs.array_members_the_Work.{Work}
use Rattle.array_fixed_invariant.specs.array_members_Lacking.{AreLostSince}
use Rattle.array_fixed_invariant.specs.array_members_Moving.{Grows, IsMoved}
use Rattle.array_fixed_invariant.specs.array_members_Placed.{is_unassigned}
use Rattle.array_fixed_invariant.specs.array_members_Rebuilding.{with_recovering, with_whole, MayHold}
use Rattle.array_fixed_invariant.specs.array_members_Status.{stripes_of, rebuilt_of, left_of}
use Rattle.array_fixed_invariant.proofs.array_members_GivenMembers.{IsReceiver, state-here, state-other, spare-before}
use Rattle.array_fixed_invariant.proofs.array_members_HeldRows.{missing-moved, vacant-missing}
use Rattle.array_fixed_invariant.proofs.array_members_LackingLaws.{since-missing}
use Rattle.array_fixed_invariant.specs.history_append_Losing.{losses_of}
use Rattle.array_fixed_invariant.proofs.history_append_CallLaws.{losses-are, gives-losses, told-losses, all-losses}
use Rattle.array_fixed_invariant.proofs.history_append_LosingLaws.{entries-both}
use Rattle.array_fixed_invariant.proofs.history_append_PlainLaws.{one}
use Rattle.array_fixed_invariant.proofs.history_append_StepLaws.{call-stepped}
use Rattle.array_fixed_invariant.specs.array_call_specs_Calls.{with_rebuilt}
use Rattle.array_fixed_invariant.specs.array_call_specs_Kept.{AreTold, AreOnlyTold}
use Rattle.array_fixed_invariant.proofs.array_call_specs_DegradedLaws.{count-moved}
use Rattle.array_fixed_invariant.proofs.array_call_specs_KeptLaws.{left-lost}
use Rattle.array_fixed_invariant.proofs.array_call_specs_OnlyLaws.{lost-among, gone-or, spare-both, gone-behind-losses, spares-behind-losses, taken-spares, TellsOnly}
use Rattle.array_fixed_invariant.proofs.array_call_specs_RecordLaws.{told-more, gone-lately}
use Rattle.array_fixed_invariant.proofs.array_call_specs_StepsLeft.{left-mended, left-ended, left-filled}
use Rattle.array_fixed_invariant.proofs.array_call_laws_RebuildEnded.{holder-before, holder-still, spare-still, moved-vacant}
use Rattle.array_fixed_invariant.proofs.array_call_laws_RebuildGiven.{receiver-spare, receiver-recovering, missing-given}
use Rattle.array_fixed_invariant.proofs.array_call_laws_RebuildLaws.{call-stepped_on}
use Rattle.array_fixed_invariant.specs.reshape_request_the_PhasesLeft.{PhasesLeft}
use Rattle.array_fixed_invariant.specs.history_invariant_Recorded.{IsCallGoing}
use Rattle.array_fixed_invariant.specs.history_invariant_Safe.{world_in}
use Rattle.array_specs.specs.Parts.{still_left}
use Rattle.array_fixed_invariant.proofs.Ending.{IsMadeWhole}
use Rattle.array_fixed_invariant.proofs.Rebuilding.{IsTaken}
use Rattle.array_fixed_laws.specs.Plain.{MayTellPlainly, IsPlainKept}
use Rattle.array_fixed_laws.specs.Ready.{IsReady}
use Rattle.array_fixed_laws.proofs.Plain.{IsLeftPlain, plain-called}
use Rattle.array_fixed_laws.proofs.PlainBehind.{plain-stepped, plain-lost}
use Rattle.array_fixed_laws.proofs.RebuildLaws.{taken-less, whole-less}
use Rattle.array_fixed_laws.proofs.StepLaws.{left-falls}

-- ---- stripes, and the end of a resync

module _ {tells : Type 0} {given : Given} {tape tape' : List Operation} {scope : Scope} {first : ℕ} {entries : List Entry} {old new : Members} {work : Work} {ahead : PhasesLeft} {limit : Option ℕ} {faults : ℕ → ℕ}
    {steps room rows buffer far_rows far_buffer roles spares : ℕ} {before after : ℕ → ℕ} (was : IsReady tells given tape scope first entries old work ahead limit faults steps room rows buffer far_rows far_buffer)
    (who : Who) (end : ℕ) (goes : IsCallGoing entries who) (caller : who.caller ≢ 254) (at_end : tells → end ≡ length tape') (grows : Grows tells tape tape')
    (moved : IsMoved given old new) (since : AreLostSince old new roles spares before after) (left : ℕ) where
  -- a stripe is mended
  pub mended-plain : (stripe : ℕ) → work.resync ≡ Some stripe → stripe < stripes_of old → left ≡ still_left (record work { resync = Some (stripe + 1) }) new ahead
      → IsLeftPlain tells given tape' scope first entries (entries_of who end (losses_of roles spares ++ Step ResyncStripe left ∷ [])) new
  mended-plain stripe pending below told =
      plain-stepped was who end goes caller at_end grows moved since ResyncStripe left tt (λ slot spare is. inl is)
      (left-falls (record work { resync = Some (stripe + 1) }) ahead (left_of work old) left moved since (left-mended work old stripe pending below) told)

  -- the resync has ended
  pub resynced-plain : work.resync ≡ Some (stripes_of old) → left ≡ still_left (record work { resync = None }) new ahead
      → IsLeftPlain tells given tape' scope first entries (entries_of who end (losses_of roles spares ++ Step ResyncEnded left ∷ [])) new
  resynced-plain all told =
      plain-stepped was who end goes caller at_end grows moved since ResyncEnded left tt (λ slot spare is. inl is)
      (left-falls (record work { resync = None }) ahead (left_of work old) left moved since (left-ended work old all) told)

  -- a stripe is rebuilt
  pub filled-plain : (role slot : ℕ) → role < (shape_of old.newest).disks → role < length work.rebuilt → role_state (reading_of old) role ≡ Recovering slot → rebuilt_of work role < stripes_of old
      → left ≡ still_left (with_rebuilt role (rebuilt_of work role + 1) work) new ahead
      → IsLeftPlain tells given tape' scope first entries (entries_of who end (losses_of roles spares ++ Step RebuildStripe left ∷ [])) new
  filled-plain role slot below few recovers unbuilt told =
      plain-stepped was who end goes caller at_end grows moved since RebuildStripe left tt (λ slot spare is. inl is)
      (left-falls (with_rebuilt role (rebuilt_of work role + 1) work) ahead (left_of work old) left moved since (left-filled work old role slot below few recovers unbuilt) told)

-- ---- a spare takes a role

module _ {tells : Type 0} {given : Given} {tape tape' : List Operation} {scope : Scope} {first : ℕ} {entries : List Entry} {old new : Members} {work : Work} {ahead : PhasesLeft} {limit : Option ℕ} {faults : ℕ → ℕ}
    {steps room rows buffer far_rows far_buffer role slot roles spares : ℕ} {before after : ℕ → ℕ} (was : IsReady tells given tape scope first entries old work ahead limit faults steps room rows buffer far_rows far_buffer)
    (who : Who) (end : ℕ) (does : DoWithout old) (goes : IsCallGoing entries who) (caller : who.caller ≢ 254) (at_end : tells → end ≡ length tape') (known : role < length work.rebuilt)
    (did : IsTaken tells given tape tape' old new role slot roles spares before after) (left : ℕ) where
  abbrev losses : List Event
  losses = losses_of roles spares

  abbrev added : List Entry
  added = entries_of who end (losses_of roles spares ++ Step RebuildTaken left ∷ [])

  to : IsReceiver given old role slot
  to = receiver-spare given old was.kept.members_are.placed was.kept.members_are.free role slot did.below did.vacant did.spare

  gone : is_missing (reading_of old) role ≡ true
  gone = vacant-missing (reading_of old) role did.vacant

  told-taken : IsPlainKept (world_in given tape scope first) old entries → AreTold new (entries ++ entries_of who end (losses_of roles spares ++ Step RebuildTaken left ∷ []))
  told-taken p r lt missing = elim (since-missing did.moved did.since r lt missing) [
    | inl in_V ↦ told-more old entries added gives p.told r (subst (λ (n : ℕ). r < n) (count-moved did.moved) lt) (missing-given given old was.kept.members_are.placed (Some 0) role slot to gone r in_V)
    | inr has ↦ gone-lately r entries added gives
        (told-losses r roles spares who end (Step RebuildTaken left ∷ []) (let most = few-roles new.newest did.moved.placed.fit.valid in omega (arith, lt, most)) has)
  ]
    where
      gives : (r : ℕ) → list_any (λ e. gives_role r e.event) (entries_of who end (losses_of roles spares ++ Step RebuildTaken left ∷ [])) ≡ false
      gives = gives-losses who end losses (Step RebuildTaken left ∷ []) (losses-are roles spares) (λ r. refl)

  only-taken : IsPlainKept (world_in given tape scope first) old entries → TellsOnly old new entries (entries_of who end (losses_of roles spares ++ Step RebuildTaken left ∷ []))
  only-taken p = record {
    only = record {
      gone = gone-behind-losses old new entries who end roles spares (Step RebuildTaken left ∷ []) (λ r missing. missing-moved did.moved r (in-given r missing))
          (λ r has. vacant-missing (reading_of new) r (did.since.gone r has)) (λ r. refl) p.only;
      spares = λ s is. absurd (let clash : true ≡ false = sym is ∙ taken-spares entries who end losses left s in cc);
    };
    held = λ r s may. inl (by_held r s may);
  }
    where
      by_held : (r s : ℕ) → MayHold new r s → (q : ℕ) × MayHold old q s
      by_held r s (inl held) = from (cases_eq r role) (did.moved.held r s held)
        where
          some-same : {a b : ℕ} → Some a ≡ Some b → a ≡ b
          some-same is = cc

          from : (r ≡ role) ⊎ (r ≢ role) → holder (role_state (reading_of (with_recovering role slot old)) r) ≡ Some s → (q : ℕ) × MayHold old q s
          from (inl same) at = (
            role,
            inr (subst (λ (k : ℕ). has_spare old.spares k ≡ true)
                (some-same (sym (ap holder (state-here given old was.kept.members_are.placed (Some 0) role slot to)) ∙ ap (λ (k : ℕ). holder (role_state (reading_of (with_recovering role slot old)) k)) (sym same) ∙ at)) did.spare),
          )
          from (inr apart) at = (r, inl (ap holder (sym (state-other given old was.kept.members_are.placed (Some 0) role slot to r apart)) ∙ at))
      by_held r s (inr has) = (r, inr (spare-before given old was.kept.members_are.placed (Some 0) role slot to s (did.moved.fewer s has)).0)

      in-given : (r : ℕ) → is_missing (reading_of old) r ≡ true → is_missing (reading_of (with_recovering role slot old)) r ≡ true
      in-given r missing = elim (cases_eq r role) [
        | inl same ↦ subst (λ (k : ℕ). is_missing (reading_of (with_recovering role slot old)) k ≡ true) (sym same) (ap (λ (s : Role). not (is_whole s)) (state-here given old was.kept.members_are.placed (Some 0) role slot to))
        | inr apart ↦ ap (λ (s : Role). not (is_whole s)) (state-other given old was.kept.members_are.placed (Some 0) role slot to r apart) ∙ missing
      ]

  pub taken-plain : left ≡ still_left (with_rebuilt role 0 work) new ahead
      → IsLeftPlain tells given tape' scope first entries (entries_of who end (losses_of roles spares ++ Step RebuildTaken left ∷ [])) new
  taken-plain told_left_is =
      plain-called was.kept was.plain who end (losses ++ Step RebuildTaken left ∷ []) goes caller at_end did.grows did.moved.shape (λ t p. told-taken p) (λ t p. only-taken p)
      (λ t keeps p fills. call-stepped (opening_in (world_in given tape scope first)) entries who end losses RebuildTaken left (losses-are roles spares) tt told)
      (all-losses MayTellPlainly who end roles spares (Step RebuildTaken left ∷ []) (λ r has. tt) (λ s has. tt)
      (All-cons (λ e. MayTellPlainly e.event) (one who end (Step RebuildTaken left)) [] tt (All-nil (λ e. MayTellPlainly e.event))))
    where
      told : IfSome (told_left (entries ++ entries_of who end (losses_of roles spares))) (λ n. n ≡ left + 1)
      told = subst (λ (l : List Event). IfSome (told_left (entries ++ entries_of who end l)) (λ n. n ≡ left + 1)) (append-nil losses)
          (left-lost (still_left work old ahead) (left + 1) entries who end losses [] (losses-are roles spares)
          (left-falls (with_rebuilt role 0 work) ahead (left_of work old) left did.moved did.since (taken-less ahead who end role slot roles spares was.kept does goes caller at_end known did) told_left_is) was.kept.left_told (λ told is. is))

-- ---- a rebuild ends

module _ {tells : Type 0} {given : Given} {tape tape' : List Operation} {scope : Scope} {first : ℕ} {entries : List Entry} {old new : Members} {work : Work} {ahead : PhasesLeft} {limit : Option ℕ} {faults : ℕ → ℕ}
    {steps room rows buffer far_rows far_buffer role slot roles spares : ℕ} {before after : ℕ → ℕ} (was : IsReady tells given tape scope first entries old work ahead limit faults steps room rows buffer far_rows far_buffer)
    (who : Who) (end : ℕ) (does : DoWithout old) (goes : IsCallGoing entries who) (caller : who.caller ≢ 254) (at_end : tells → end ≡ length tape') (all : stripes_of old ≤ rebuilt_of work role) (synced : work.resync ≡ None)
    (did : IsMadeWhole tells given tape tape' old new role slot roles spares before after) where
  abbrev told_losses : List Event
  told_losses = losses_of roles spares

  keeper : IsReceiver given old role slot
  keeper = receiver-recovering given old was.kept.members_are.placed was.kept.members_are.unlost role slot did.below did.recovers

  missing : is_missing (reading_of old) role ≡ true
  missing = ap (λ (s : Role). not (is_whole s)) did.recovers

  -- the slot was lost in it
  module _ (vacant : is_unassigned (reading_of new) role ≡ true) where
    moved-lost : IsMoved given old new
    moved-lost = moved-vacant given old new was.kept.members_are.placed role slot keeper was.kept.members_are.free did.recovers did.moved vacant

    since-lost : AreLostSince old new roles spares before after
    since-lost = record {
      vacant = λ r lt none. elim (did.since.vacant r lt none) [
        | inl in_V ↦ inl (by r (holder (role_state (reading_of old) r)) refl in_V)
        | inr has ↦ inr has
      ];
      gone = did.since.gone;
      held = λ r has. let h = did.since.held r has in (h.0, holder-before given old new was.kept.members_are.placed role slot keeper was.kept.members_are.free did.recovers did.moved r h.0 h.1, h.2);
      failed = did.since.failed;
      were = λ s has. (spare-before given old was.kept.members_are.placed None role slot keeper s (did.since.were s has)).0;
      told = λ s has. did.since.told s (spare-still given old new was.kept.members_are.placed role slot keeper was.kept.members_are.free did.recovers did.moved s has);
    }
      where
        by : (r : ℕ) (o : Option ℕ) → holder (role_state (reading_of old) r) ≡ o → is_unassigned (reading_of (with_whole role slot old)) r ≡ true → is_unassigned (reading_of old) r ≡ true
        by r None is in_V = ap (λ (o : Option ℕ). not (is_some o)) is
        by r (Some s) is in_V = absurd (
            let clash : false ≡ true =
            sym (ap (λ (o : Option ℕ). not (is_some o)) (holder-still given old new was.kept.members_are.placed role slot keeper was.kept.members_are.free did.recovers did.moved r s is)) ∙ in_V in
            cc
            )

    pub gone-plain : IsLeftPlain tells given tape' scope first entries (entries_of who end (losses_of roles spares)) new
    gone-plain = plain-lost was who end goes caller at_end did.grows moved-lost since-lost

  -- the role is whole
  module _ (left : ℕ) (whole_is : role_state (reading_of new) role ≡ Whole slot) where
    abbrev early : List Event
    early = losses_of roles spares ++ Step RebuildEnded left ∷ []

    abbrev late : List Event
    late = Rebuilt role ∷ []

    split : (losses_of roles spares ++ Step RebuildEnded left ∷ []) ++ Rebuilt role ∷ [] ≡ losses_of roles spares ++ Step RebuildEnded left ∷ Rebuilt role ∷ []
    split = append_assoc told_losses (Step RebuildEnded left ∷ []) late

    -- the entries up to the step, and the one that tells the role whole
    both : entries ++ entries_of who end ((losses_of roles spares ++ Step RebuildEnded left ∷ []) ++ Rebuilt role ∷ []) ≡ (entries ++ entries_of who end (losses_of roles spares ++ Step RebuildEnded left ∷ [])) ++ one who end (Rebuilt role) ∷ []
    both = ap (λ (l : List Entry). entries ++ l) (entries-both who end early late) ∙ sym (append_assoc entries (entries_of who end early) (one who end (Rebuilt role) ∷ []))

    -- each other role is gone as before
    differ : (r : ℕ) → r ≢ role → list_any (λ e. gives_role r e.event) (one who end (Rebuilt role) ∷ []) ≡ false
    differ r apart = ne role r (λ same. apart (sym same))
      where
        ne : (a b : ℕ) → a ≢ b → ((a == b) || false) ≡ false
        ne a b other = grind (arith, nat_tests, other)

    gone-still : (r : ℕ) → r ≢ role → IsTrue (is_gone_now (entries ++ entries_of who end (losses_of roles spares ++ Step RebuildEnded left ∷ [])) r)
        → IsTrue (is_gone_now (entries ++ entries_of who end ((losses_of roles spares ++ Step RebuildEnded left ∷ []) ++ Rebuilt role ∷ [])) r)
    gone-still r apart is = subst (λ (l : List Entry). IsTrue (is_gone_now l r)) (sym both) (gone-more r (entries ++ entries_of who end early) (one who end (Rebuilt role) ∷ []) (differ r apart) is)

    told-early : IsPlainKept (world_in given tape scope first) old entries → AreTold new (entries ++ entries_of who end (losses_of roles spares ++ Step RebuildEnded left ∷ []))
    told-early p r lt out = elim (since-missing did.moved did.since r lt out) [
      | inl in_V ↦ told-more old entries (entries_of who end early) gives p.told r (subst (λ (n : ℕ). r < n) (count-moved did.moved) lt) (missing-given given old was.kept.members_are.placed None role slot keeper missing r in_V)
      | inr has ↦ gone-lately r entries (entries_of who end early) gives
          (told-losses r roles spares who end (Step RebuildEnded left ∷ []) (let most = few-roles new.newest did.moved.placed.fit.valid in omega (arith, lt, most)) has)
    ]
      where
        gives : (r : ℕ) → list_any (λ e. gives_role r e.event) (entries_of who end (losses_of roles spares ++ Step RebuildEnded left ∷ [])) ≡ false
        gives = gives-losses who end told_losses (Step RebuildEnded left ∷ []) (losses-are roles spares) (λ r. refl)

    told-whole : IsPlainKept (world_in given tape scope first) old entries → AreTold new (entries ++ entries_of who end ((losses_of roles spares ++ Step RebuildEnded left ∷ []) ++ Rebuilt role ∷ []))
    told-whole p r lt out = gone-still r (λ same. absurd (
        let here : is_missing (reading_of new) r ≡ false = ap (is_missing (reading_of new)) same ∙ ap (λ (s : Role). not (is_whole s)) whole_is in
        let clash : true ≡ false = sym out ∙ here in
        cc
        )) (told-early p r lt out)

    -- a role that is told gone is another one, which is missing
    still-told : IsPlainKept (world_in given tape scope first) old entries → AreOnlyTold new (entries ++ entries_of who end ((losses_of roles spares ++ Step RebuildEnded left ∷ []) ++ Rebuilt role ∷ []))
    still-told p = record {
      gone = λ r gone. by r (parts (is_gone_now (entries ++ entries_of who end early) r) (role == r)
          (sym (ap (λ (l : List Entry). is_gone_now l r) both ∙ fold-append (is_gone_with r) false (entries ++ entries_of who end early) (one who end (Rebuilt role) ∷ [])) ∙ gone));
      spares = λ s is. spares-behind-losses old.spares new.spares entries who end roles spares (Step RebuildEnded left ∷ []) (λ k has. (was.kept.members_are.free k has).room.small)
          (λ k has. did.since.told k (spare-still given old new was.kept.members_are.placed role slot keeper was.kept.members_are.free did.recovers did.moved k has)) (λ k spare has. inl has) p.only.spares s
          (sym (ap (λ (l : List Entry). is_spare_now l s) both ∙ spare-both s (entries ++ entries_of who end early) (one who end (Rebuilt role) ∷ []) false) ∙ is);
    }
      where
        parts : (a b : Bool) → (a && not b || false) ≡ true → (a ≡ true) × (b ≡ false)
        parts true false is = (refl, refl)
        parts true true is = absurd (cc)
        parts false b is = absurd (cc)

        other : (r : ℕ) → (role == r) ≡ false → r ≢ role
        other r apart same = absurd (let equal : (role == r) ≡ true = eq-eqb role r (sym same) in let clash : true ≡ false = sym equal ∙ apart in cc)

        by : (r : ℕ) → (is_gone_now (entries ++ entries_of who end (losses_of roles spares ++ Step RebuildEnded left ∷ [])) r ≡ true) × ((role == r) ≡ false) → is_missing (reading_of new) r ≡ true
        by r are = elim (gone-or r entries (entries_of who end early) are.0) [
          | inl before ↦ missing-moved did.moved r (ap (λ (s : Role). not (is_whole s)) (state-other given old was.kept.members_are.placed None role slot keeper r (other r are.1)) ∙ p.only.gone r before)
          | inr now ↦ vacant-missing (reading_of new) r (did.since.gone r (lost-among r roles spares who end (Step RebuildEnded left ∷ []) refl now))
        ]

    only-whole : IsPlainKept (world_in given tape scope first) old entries → TellsOnly old new entries (entries_of who end ((losses_of roles spares ++ Step RebuildEnded left ∷ []) ++ Rebuilt role ∷ []))
    only-whole p = record { only = still-told p; held = λ r s may. inl (by_held r s may) }
      where
        by_held : (r s : ℕ) → MayHold new r s → (q : ℕ) × MayHold old q s
        by_held r s (inl held) = (r, inl (holder-before given old new was.kept.members_are.placed role slot keeper was.kept.members_are.free did.recovers did.moved r s (did.moved.held r s held)))
        by_held r s (inr has) = (r, inr (spare-before given old was.kept.members_are.placed None role slot keeper s (did.moved.fewer s has)).0)

    pub whole-plain : left ≡ still_left work new ahead
        → IsLeftPlain tells given tape' scope first entries (entries_of who end (losses_of roles spares ++ Step RebuildEnded left ∷ Rebuilt role ∷ [])) new
    whole-plain told_left_is =
        plain-called was.kept was.plain who end (told_losses ++ Step RebuildEnded left ∷ Rebuilt role ∷ []) goes caller at_end did.grows did.moved.shape
        (λ t p. subst (λ (l : List Event). AreTold new (entries ++ entries_of who end l)) split (told-whole p))
        (λ t p. subst (λ (l : List Event). TellsOnly old new entries (entries_of who end l)) split (only-whole p))
        (λ t keeps p fills. call-stepped_on (opening_in (world_in given tape scope first)) entries who end told_losses RebuildEnded left late (losses-are roles spares) tt told (tt, tt, tt))
        (all-losses MayTellPlainly who end roles spares (Step RebuildEnded left ∷ Rebuilt role ∷ []) (λ r has. tt) (λ s has. tt)
        (All-cons (λ e. MayTellPlainly e.event) (one who end (Step RebuildEnded left)) (one who end (Rebuilt role) ∷ []) tt
        (All-cons (λ e. MayTellPlainly e.event) (one who end (Rebuilt role)) [] tt (All-nil (λ e. MayTellPlainly e.event)))))
      where
        told : IfSome (told_left (entries ++ entries_of who end (losses_of roles spares))) (λ n. n ≡ left + 1)
        told = subst (λ (l : List Event). IfSome (told_left (entries ++ entries_of who end l)) (λ n. n ≡ left + 1)) (append-nil told_losses)
            (left-lost (still_left work old ahead) (left + 1) entries who end told_losses [] (losses-are roles spares)
            (left-falls work ahead (left_of work old) left did.moved did.since (whole-less ahead who end role slot roles spares was.kept does goes caller at_end all synced did) told_left_is) was.kept.left_told (λ told is. is))
