-- What the histories of a run tell of losses.
use Rattle.std.proofs.Common.{◌≡◌, ◌⊎◌, inl, inr, ℕ, zero, suc, ◌<◌, ◌||◌, not, Bool, true, false, Option, Some, None, List, [], ◌∷◌, ◌++◌, refl, sym, ◌∙◌, ap, subst, arith, append_assoc, append-nil}
use Rattle.std.proofs.lemmas.List.Folds.{list_any-append}
use Rattle.std.proofs.lemmas.List.Elements.{All-nil, All-cons, All-append, All-head, All-tail}
use Rattle.std.specs.Prelude.{slice_index_or, MatchOption, IsTrue}
use Rattle.std.specs.List.{All, list_any}
use Rattle.array_requests.specs.bank_Given.{Given, IsFaulted}
use Rattle.array_requests.specs.raid_types_the_Refusal.{Refusal}
use Rattle.array_requests.specs.raid_types_the_Refusal_TheVariants.{BackupFault, SlotFault}
use Rattle.array_requests.specs.bank_the_Operation.{Operation}
use Rattle.array_requests.specs.raid_types_the_Who.{Who}
use Rattle.array_requests.specs.sb_specs_the_Members.{Members}
use Rattle.script.specs.history_the_Entry.{Entry}
use Rattle.script.specs.history_the_Event.{Event}
use Rattle.script.specs.history_the_Event_TheVariants.{Lost, SpareLost, Stepped, Halted, Refused}
use Rattle.script.specs.history_the_LostCause.{LostCause}
use Rattle.script.specs.history_the_LostCause_TheVariants.{Absent, Recovering, Command, Fault}
use Rattle.script.specs.history_Plain.{entries_of}
use Rattle.script.specs.history_Growing.{grown}
use Rattle.script.specs.history_World.{World}
use Rattle.script.specs.raid_types_the_Role.{Role}
use Rattle.script.specs.raid_types_the_Role_TheVariants.{Whole, Recovering as HeldInPart, Missing}
use Rattle.array_requests.specs.sb_specs_Reading.{Reading, is_whole, role_state}
use Rattle.array_requests.specs.sb_specs_Reads.{has_spare}
use Rattle.array_requests.specs.stripe_row_Rows.{is_missing}
use Rattle.array_requests.specs.array_call_specs_Adopting.{opener, found_loss, absent_loss, absent_losses}
use Rattle.array_requests.specs.array_call_specs_Calls.{IsRoleLossBy, IsLossBy, WasSpare, AreLossesBy, AreLossesOf, AreSparesFewer, IsEntered}
use Rattle.array_requests.specs.array_members_Rebuilding.{Held, MayHold}
use Rattle.array_requests.specs.array_members_Placed.{AreStillHeld}
use Rattle.array_requests.specs.array_reply_specs_Going.{may_drop, MayBeDropped, MayHoldBehind, WasSpareOrHolder, AreHeldBehind, AreLossesAlong}
use Rattle.array_requests.specs.array_members_Moving.{Grows}
use Rattle.run_specs.specs.Histories.{History}
use Rattle.run_specs.specs.Making.{Setting, world_at, history_world, HeldAtFirst, MissingAtFirst, SpareAtFirst, is_added, IsSpareSince, MayHaveHeld, AreHeldSince}
use Rattle.run_specs.specs.States.{IsRoleLossSince, IsRefusalSince, IsLossSince, with_entries, AreLossesBehind, AreLossesSince, AreLossesFrom, AreGrown}
use Rattle.run_specs.proofs.AskLaws.{one}
use Rattle.run_specs.proofs.Causes.{faulted-wider}
use Rattle.run_specs.proofs.Growth.{IsWider, world_stays}
use Rattle.run_specs.proofs.Told.{IsRefusalTold, HasTold, told_more}
use Rattle.run_specs.proofs.Worlds.{held-longer, missing-longer, spare-longer}
use Rattle.array_requests.proofs.history_laws_OneShapeGrowing.{entries-both}

-- ---- what may have held a role since the opening

-- an epoch's history may grow
pub record IsSameOpening (old new : History) : Type 0 where
  pub uuid : new.uuid ≡ old.uuid
  pub given : new.given ≡ old.given
  pub first : new.first ≡ old.first

-- and does so by what is entered behind its entries
pub record IsHistoryLater (old new : History) : Type 0 where
  pub same : IsSameOpening old new
  pub more : List Entry
  pub grown : new.entries ≡ old.entries ++ more

opened-same : (history : History) → IsSameOpening history history
opened-same history = record { uuid = refl; given = refl; first = refl }

-- what some entry tells stays told
told-more : (passes : Entry → Bool) (entries more : List Entry) → IsTrue (list_any passes entries) → IsTrue (list_any passes (entries ++ more))
told-more passes entries more told = list_any-append passes entries more ∙ ap (λ (b : Bool). b || list_any passes more) told

pub told-behind : (passes : Entry → Bool) (entries more : List Entry) → IsTrue (list_any passes more) → IsTrue (list_any passes (entries ++ more))
told-behind passes entries more told = list_any-append passes entries more ∙ ap (λ (b : Bool). list_any passes entries || b) told ∙ or_true (list_any passes entries)
  where
    or_true : (b : Bool) → (b || true) ≡ true
    or_true true = refl
    or_true false = refl

-- so does a spare that was told added
added-more : (slot : ℕ) (entries more : List Entry) → IsTrue (list_any (λ e. is_added slot e.event) entries) → IsTrue (list_any (λ e. is_added slot e.event) (entries ++ more))
added-more slot entries more told = told-more (λ e. is_added slot e.event) entries more told

-- and the end of a reshape
finish-more : (entries more : List Entry) → IsTrue (list_any (λ e. may_drop e.event) entries) → IsTrue (list_any (λ e. may_drop e.event) (entries ++ more))
finish-more entries more told = told-more (λ e. may_drop e.event) entries more told

-- histories that began alike have the same world
pub world_same : (given : Given) (tape : List Operation) (backup : Option ℕ) (old new : History) → IsSameOpening old new → world_at given tape backup new ≡ world_at given tape backup old
world_same given tape backup old new same =
    ap (λ (u : List ℕ). world_at given tape backup (record { uuid = u; given = new.given; first = new.first; entries = [] })) same.uuid
    ∙ ap (λ (n : ℕ). world_at given tape backup (record { uuid = old.uuid; given = n; first = new.first; entries = [] })) same.given
    ∙ ap (λ (n : ℕ). world_at given tape backup (record { uuid = old.uuid; given = old.given; first = n; entries = [] })) same.first

module _ (given : Given) (backup : Option ℕ) (before : List Operation) (more : List Operation) (old new : History) (later : IsHistoryLater old new) where
  abbrev world_before : World
  world_before = world_at given before backup old

  abbrev world_after : World
  world_after = world_at given (before ++ more) backup new

  world_is : world_after ≡ grown world_before more
  world_is = world_same given (before ++ more) backup old new later.same

  first-held : (role slot : ℕ) → HeldAtFirst world_before role slot → HeldAtFirst world_after role slot
  first-held role slot held = subst (λ (w : World). HeldAtFirst w role slot) (sym world_is) (held-longer world_before more held)

  since-spare : (slot : ℕ) → IsSpareSince world_before old.entries slot → IsSpareSince world_after new.entries slot
  since-spare slot (inl first) = inl (subst (λ (w : World). SpareAtFirst w slot) (sym world_is) (spare-longer world_before more first))
  since-spare slot (inr (inl told)) = inr (inl (subst (λ (l : List Entry). IsTrue (list_any (λ e. is_added slot e.event) l)) (sym later.grown) (added-more slot old.entries later.more told)))
  since-spare slot (inr (inr (finished, role, held))) =
      inr (inr (subst (λ (l : List Entry). IsTrue (list_any (λ e. may_drop e.event) l)) (sym later.grown) (finish-more old.entries later.more finished), role, first-held role slot held))

  since-held : (role slot : ℕ) → MayHaveHeld world_before old.entries role slot → MayHaveHeld world_after new.entries role slot
  since-held role slot (inl held) = inl (first-held role slot held)
  since-held role slot (inr spare) = inr (since-spare slot spare)

-- it stays so as the tape and the history grow
pub held-later : {tells : Type 0} {before after : List Operation} (given : Given) (backup : Option ℕ) (old new : History) (members : Members) → Grows tells before after → IsHistoryLater old new
    → (tells → AreHeldSince (world_at given before backup old) old.entries members) → tells → AreHeldSince (world_at given after backup new) new.entries members
held-later {before = before} given backup old new members grows later was t =
    let more = grows.more t in
    subst (λ (l : List Operation). AreHeldSince (world_at given l backup new) new.entries members) (sym (more.1)) (record {
      roles = λ role slot is. since-held given backup before (more.0) old new later role slot ((was t).roles role slot is);
      spares = λ slot is. since-spare given backup before (more.0) old new later slot ((was t).spares slot is);
    })

-- Each role that has a slot had it before, or that slot was a spare; each spare was one before, or these entries tell that it was added; or in either case it had a role before a reshape
-- ended.
pub record AreHeldOn (old new : Members) (entries : List Entry) : Type 0 where
  pub roles : (role slot : ℕ) → Held new role slot → MayHoldBehind old entries role slot
  pub spares : (slot : ℕ) → has_spare new.spares slot ≡ true → (has_spare old.spares slot ≡ true) ⊎ IsTrue (list_any (λ e. is_added slot e.event) entries) ⊎ MayBeDropped old entries slot

-- where roles are only lost
pub on-lost : {old new : Members} (entries : List Entry) → AreStillHeld old new → AreSparesFewer old new → AreHeldOn old new entries
on-lost entries held spares = record { roles = λ role slot is. inl (inl (held role slot is)); spares = λ slot is. inl (spares slot is) }

-- where a slot was added besides
pub on-added : {old new : Members} (entries : List Entry) → AreStillHeld old new
    → ((slot : ℕ) → has_spare new.spares slot ≡ true → (has_spare old.spares slot ≡ true) ⊎ IsTrue (list_any (λ e. is_added slot e.event) entries)) → AreHeldOn old new entries
on-added entries held spares = record { roles = λ role slot is. inl (inl (held role slot is)); spares = λ slot is. of (spares slot is) }
  where
    of : {A B C : Type 0} → A ⊎ B → A ⊎ B ⊎ C
    of (inl a) = inl a
    of (inr b) = inr (inl b)

-- where steps were done, behind these entries
pub on-steps : {old new : Members} (entries more : List Entry) → AreHeldBehind old new more → AreHeldOn old new (entries ++ more)
on-steps {old = old} entries more held = record { roles = λ role slot is. role_of role slot (held.roles role slot is); spares = λ slot is. spare_of slot (held.spares slot is) }
  where
    dropped : (slot : ℕ) → MayBeDropped old more slot → MayBeDropped old (entries ++ more) slot
    dropped slot (finished, role, had) = (told-behind (λ e. may_drop e.event) entries more finished, role, had)

    role_of : (role slot : ℕ) → MayHoldBehind old more role slot → MayHoldBehind old (entries ++ more) role slot
    role_of role slot (inl may) = inl may
    role_of role slot (inr drop) = inr (dropped slot drop)

    spare_of : (slot : ℕ) → (has_spare old.spares slot ≡ true) ⊎ MayBeDropped old more slot → (has_spare old.spares slot ≡ true) ⊎ IsTrue (list_any (λ e. is_added slot e.event) (entries ++ more)) ⊎ MayBeDropped old (entries ++ more) slot
    spare_of slot (inl was) = inl was
    spare_of slot (inr drop) = inr (inr (dropped slot drop))

module _ (world : World) (entries : List Entry) (members : Members) (since : AreHeldSince world entries members) where
  -- so it is of what may hold a role
  pub may-held : (role slot : ℕ) → MayHold members role slot → MayHaveHeld world entries role slot
  may-held role slot (inl held) = since.roles role slot held
  may-held role slot (inr spare) = inr (since.spares slot spare)

  -- and of a slot that may have been dropped, by these entries or by more
  pub may-dropped : (slot : ℕ) → MayBeDropped members entries slot → IsSpareSince world entries slot
  may-dropped slot (finished, role, held) = of (since.roles role slot held)
    where
      of : MayHaveHeld world entries role slot → IsSpareSince world entries slot
      of (inl first) = inr (inr (finished, role, first))
      of (inr spare) = spare

  may-behind : (role slot : ℕ) → MayHoldBehind members entries role slot → MayHaveHeld world entries role slot
  may-behind role slot (inl may) = may-held role slot may
  may-behind role slot (inr drop) = inr (may-dropped slot drop)

  -- and of the members that are left
  pub held-on : (new : Members) → AreHeldOn members new entries → AreHeldSince world entries new
  held-on new on = record { roles = λ role slot is. may-behind role slot (on.roles role slot is); spares = λ slot is. by_spare slot (on.spares slot is) }
    where
      by_spare : (slot : ℕ) → (has_spare members.spares slot ≡ true) ⊎ IsTrue (list_any (λ e. is_added slot e.event) entries) ⊎ MayBeDropped members entries slot → IsSpareSince world entries slot
      by_spare slot (inl spare) = since.spares slot spare
      by_spare slot (inr (inl told)) = inr (inl told)
      by_spare slot (inr (inr drop)) = may-dropped slot drop

module _ (was now : Setting) (wider : IsWider was now) (old new : History) (later : IsHistoryLater old new) (t : now.tells) where
  world_later : history_world now new ≡ grown (history_world was old) (wider.grows.more t).0
  world_later = world_same now.given now.tape now.backup old new later.same ∙ world_stays was now wider old t

  held-wider : (role slot : ℕ) → MayHaveHeld (history_world was old) old.entries role slot → MayHaveHeld (history_world now new) new.entries role slot
  held-wider role slot (inl held) = inl (subst (λ (w : World). HeldAtFirst w role slot) (sym world_later) (held-longer (history_world was old) (wider.grows.more t).0 held))
  held-wider role slot (inr (inl first)) = inr (inl (subst (λ (w : World). SpareAtFirst w slot) (sym world_later) (spare-longer (history_world was old) (wider.grows.more t).0 first)))
  held-wider role slot (inr (inr (inl told))) = inr (inr (inl (subst (λ (l : List Entry). IsTrue (list_any (λ e. is_added slot e.event) l)) (sym later.grown) (added-more slot old.entries later.more told))))
  held-wider role slot (inr (inr (inr (finished, had, held)))) =
      inr (inr (inr (
        subst (λ (l : List Entry). IsTrue (list_any (λ e. may_drop e.event) l)) (sym later.grown) (finish-more old.entries later.more finished),
        had,
        subst (λ (w : World). HeldAtFirst w had slot) (sym world_later) (held-longer (history_world was old) (wider.grows.more t).0 held),
      )))

  missing-wider : (role : ℕ) → MissingAtFirst (history_world was old) role → MissingAtFirst (history_world now new) role
  missing-wider role missing = subst (λ (w : World). MissingAtFirst w role) (sym world_later) (missing-longer (history_world was old) (wider.grows.more t).0 missing)

-- ---- a loss has its cause, over a longer time

role-wider : (was now : Setting) → IsWider was now → (old new : History) → IsHistoryLater old new → (role : ℕ) (cause : LostCause) → IsRoleLossSince was old role cause → IsRoleLossSince now new role cause
role-wider was now wider old new later role Fault (slot, failed, held) = (slot, faulted-wider slot wider.early wider.between wider.late failed, λ t. held-wider was now wider old new later t role slot (held (wider.told t)))
role-wider was now wider old new later role Command held = λ t. let is = held (wider.told t) in (is.0, held-wider was now wider old new later t role is.0 is.1)
role-wider was now wider old new later role Absent missing = λ t. missing-wider was now wider old new later t role (missing (wider.told t))
role-wider was now wider old new later role Recovering missing = λ t. missing-wider was now wider old new later t role (missing (wider.told t))

refusal-wider : (was now : Setting) → IsWider was now → (refusal : Refusal) → IsRefusalSince was refusal → IsRefusalSince now refusal
refusal-wider was now wider (SlotFault slot) failed = faulted-wider slot wider.early wider.between wider.late failed
refusal-wider was now wider BackupFault failed = subst (λ (b : Option ℕ). MatchOption b ⊥ (λ slot. IsFaulted slot now.before now.now)) (sym wider.backup) (by_backup was.backup failed)
  where
    by_backup : (b : Option ℕ) → MatchOption b ⊥ (λ slot. IsFaulted slot was.before was.now) → MatchOption b ⊥ (λ slot. IsFaulted slot now.before now.now)
    by_backup None failed = absurd failed
    by_backup (Some slot) failed = faulted-wider slot wider.early wider.between wider.late failed
refusal-wider was now wider refusal failed = tt

loss-wider : (was now : Setting) → IsWider was now → (old new : History) → IsHistoryLater old new → (event : Event) → IsLossSince was old event → IsLossSince now new event
loss-wider was now wider old new later (Lost role cause) loss = role-wider was now wider old new later role cause loss
loss-wider was now wider old new later (SpareLost slot) (failed, held) = (faulted-wider slot wider.early wider.between wider.late failed, λ t. let is = held (wider.told t) in (is.0, held-wider was now wider old new later t is.0 slot is.1))
loss-wider was now wider old new later (Stepped done left None) loss = tt
loss-wider was now wider old new later (Stepped done left (Some refusal)) loss = refusal-wider was now wider refusal loss
loss-wider was now wider old new later (Refused refusal) loss = refusal-wider was now wider refusal loss
loss-wider was now wider old new later event loss = tt

-- the histories before an entry of two that were opened alike
alike-before : (old new : History) → IsSameOpening old new → (before : List Entry) → IsHistoryLater (with_entries before old) (with_entries before new)
alike-before old new same before = record { same = record { uuid = same.uuid; given = same.given; first = same.first }; more = []; grown = sym (append-nil before) }

-- the history of an array, as it stood before a call
before-of : (old new : History) → IsSameOpening old new → IsHistoryLater old (with_entries old.entries new)
before-of old new same = record { same = record { uuid = same.uuid; given = same.given; first = same.first }; more = []; grown = sym (append-nil old.entries) }

pub held-before : {tells : Type 0} {before after : List Operation} (given : Given) (backup : Option ℕ) (old new : History) (members : Members) → Grows tells before after → IsSameOpening old new
    → (tells → AreHeldSince (world_at given before backup old) old.entries members) → tells → AreHeldSince (world_at given after backup new) old.entries members
held-before given backup old new members grows same was = held-later given backup old (with_entries old.entries new) members grows (before-of old new same) was

behind-wider : (was now : Setting) → IsWider was now → (old new : History) → IsSameOpening old new → (before entries : List Entry) → AreLossesBehind was old before entries → AreLossesBehind now new before entries
behind-wider was now wider old new same before [] failed = tt
behind-wider was now wider old new same before (e ∷ entries) (one, failed) = (
  loss-wider was now wider (with_entries before old) (with_entries before new) (alike-before old new same before) e.event one,
  behind-wider was now wider old new same (before ++ e ∷ []) entries failed,
)

-- what may have held a role by these entries may have held it by more of them
pub held-more : (world : World) (before more : List Entry) (role slot : ℕ) → MayHaveHeld world before role slot → MayHaveHeld world (before ++ more) role slot
held-more world before more role slot (inl held) = inl held
held-more world before more role slot (inr (inl first)) = inr (inl first)
held-more world before more role slot (inr (inr (inl told))) = inr (inr (inl (added-more slot before more told)))
held-more world before more role slot (inr (inr (inr (finished, had, held)))) = inr (inr (inr (finish-more before more finished, had, held)))

role-later : (setting : Setting) (history : History) (before more : List Entry) (role : ℕ) (cause : LostCause) → IsRoleLossSince setting (with_entries before history) role cause → IsRoleLossSince setting (with_entries (before ++ more) history) role cause
role-later setting history before more role Fault (slot, failed, held) = (slot, failed, λ t. held-more (history_world setting history) before more role slot (held t))
role-later setting history before more role Command held = λ t. let is = held t in (is.0, held-more (history_world setting history) before more role is.0 is.1)
role-later setting history before more role Absent missing = missing
role-later setting history before more role Recovering missing = missing

loss-later : (setting : Setting) (history : History) (before more : List Entry) (event : Event) → IsLossSince setting (with_entries before history) event → IsLossSince setting (with_entries (before ++ more) history) event
loss-later setting history before more (Lost role cause) loss = role-later setting history before more role cause loss
loss-later setting history before more (SpareLost slot) (failed, held) = (failed, λ t. let is = held t in (is.0, held-more (history_world setting history) before more is.0 slot is.1))
loss-later setting history before more (Stepped done left ended) loss = loss
loss-later setting history before more (Refused refusal) loss = loss
loss-later setting history before more event loss = tt

-- what has its cause by an earlier history has it by each later one
behind-from : (setting : Setting) (history : History) (before more entries : List Entry) → All (λ e. IsLossSince setting (with_entries before history) e.event) entries → AreLossesBehind setting history (before ++ more) entries
behind-from setting history before more [] all = tt
behind-from setting history before more (e ∷ entries) all = (
  loss-later setting history before more e.event (All-head (λ e. IsLossSince setting (with_entries before history) e.event) e entries all),
  subst (λ (l : List Entry). AreLossesBehind setting history l entries) (sym (append_assoc before more (e ∷ [])))
      (behind-from setting history before (more ++ e ∷ []) entries (All-tail (λ e. IsLossSince setting (with_entries before history) e.event) e entries all)),
)

behind-start : (setting : Setting) (history : History) (before entries : List Entry) → All (λ e. IsLossSince setting (with_entries before history) e.event) entries → AreLossesBehind setting history before entries
behind-start setting history before entries all = subst (λ (l : List Entry). AreLossesBehind setting history l entries) (append-nil before) (behind-from setting history before [] entries all)

behind-append : (setting : Setting) (history : History) (before xs ys : List Entry) → AreLossesBehind setting history before xs → AreLossesBehind setting history (before ++ xs) ys → AreLossesBehind setting history before (xs ++ ys)
behind-append setting history before [] ys one two = subst (λ (l : List Entry). AreLossesBehind setting history l ys) (append-nil before) two
behind-append setting history before (x ∷ xs) ys (first, one) two = (
  first,
  behind-append setting history (before ++ x ∷ []) xs ys one (subst (λ (l : List Entry). AreLossesBehind setting history l ys) (sym (append_assoc before (x ∷ []) xs)) two),
)

-- ---- one history

module _ (setting : Setting) (old : List Entry) (history : History) (Had : ℕ → ℕ → Type 0) (Was : ℕ → Type 0) (since : setting.tells → (role slot : ℕ) → Had role slot → MayHaveHeld (history_world setting history) old role slot)
    (was : setting.tells → (slot : ℕ) → Was slot → (role : ℕ) × MayHaveHeld (history_world setting history) old role slot) where
  role-since : (role : ℕ) (cause : LostCause) → IsRoleLossBy Had setting.before setting.now role cause → IsRoleLossSince setting (with_entries old history) role cause
  role-since role Fault (slot, had, failed) = (slot, failed, λ t. since t role slot had)
  role-since role Command (slot, had) = λ t. (slot, since t role slot had)
  role-since role Absent loss = absurd loss
  role-since role Recovering loss = absurd loss

  pub loss-since : (event : Event) → IsLossBy Had Was setting.before setting.now event → IsRefusalTold setting event → IsLossSince setting (with_entries old history) event
  loss-since (Lost role cause) loss told = role-since role cause loss
  loss-since (SpareLost slot) (spare, failed) told = (failed, λ t. was t slot spare)
  loss-since (Stepped done left ended) loss told = told
  loss-since (Refused refusal) loss told = told
  loss-since event loss told = tt

  losses-since : AreLossesBy Had Was setting.before setting.now old history.entries → HasTold setting old history.entries → AreLossesSince setting old history
  losses-since lost told = record {
    more = lost.more;
    grown = lost.grown;
    failed = behind-start setting history old lost.more (λ k d lt. loss-since (slice_index_or lost.more k d).event (lost.failed k d lt) (told_more setting told lost.more lost.grown k d lt));
  }

-- the losses of a call of an array, by which roles are only lost
pub losses-of : {members : Members} {old : List Entry} (setting : Setting) (new : History) → (setting.tells → AreHeldSince (history_world setting new) old members) → AreLossesOf members setting.before setting.now old new.entries
    → HasTold setting old new.entries → AreLossesSince setting old new
losses-of {members = members} {old = old} setting new since was told = losses-since setting old new (Held members) (WasSpare members) (λ t role slot had. (since t).roles role slot had) (λ t slot spare. (0, inr ((since t).spares slot spare))) was told

-- the losses of steps, by what may have held the role behind the entries before
module _ (setting : Setting) (old : List Entry) (history : History) (members : Members) (since : setting.tells → AreHeldSince (history_world setting history) old members) where
  along-held : (done : List Entry) (role slot : ℕ) → setting.tells → MayHoldBehind members done role slot → MayHaveHeld (history_world setting history) (old ++ done) role slot
  along-held done role slot t (inl may) = held-more (history_world setting history) old done role slot (may-held (history_world setting history) old members (since t) role slot may)
  along-held done role slot t (inr (finished, had, held)) = of (held-more (history_world setting history) old done had slot ((since t).roles had slot held))
    where
      of : MayHaveHeld (history_world setting history) (old ++ done) had slot → MayHaveHeld (history_world setting history) (old ++ done) role slot
      of (inl first) = inr (inr (inr (told-behind (λ e. may_drop e.event) old done finished, had, first)))
      of (inr spare) = inr spare

  along-was : (done : List Entry) (slot : ℕ) → setting.tells → WasSpareOrHolder members slot → (role : ℕ) × MayHaveHeld (history_world setting history) (old ++ done) role slot
  along-was done slot t (inl spare) = (0, along-held done 0 slot t (inl (inr spare)))
  along-was done slot t (inr (role, had)) = (role, along-held done role slot t (inl (inl had)))

  losses-behind : (done more : List Entry) → AreLossesAlong members setting.before setting.now done more → All (λ e. IsRefusalTold setting e.event) more → AreLossesBehind setting history (old ++ done) more
  losses-behind done [] was told = tt
  losses-behind done (e ∷ more) (one, was) told = (
    loss-since setting (old ++ done) history (MayHoldBehind members done) (WasSpareOrHolder members) (λ t role slot had. along-held done role slot t had)
        (λ t slot was. along-was done slot t was) e.event one (All-head (λ e. IsRefusalTold setting e.event) e more told),
    subst (λ (l : List Entry). AreLossesBehind setting history l more) (sym (append_assoc old done (e ∷ [])))
        (losses-behind (done ++ e ∷ []) more was (All-tail (λ e. IsRefusalTold setting e.event) e more told)),
  )

  pub losses-steps : (more : List Entry) → history.entries ≡ old ++ more → AreLossesAlong members setting.before setting.now [] more → HasTold setting old history.entries → AreLossesSince setting old history
  losses-steps more is was told = record {
    more = more;
    grown = is;
    failed = subst (λ (l : List Entry). AreLossesBehind setting history l more) (append-nil old) (losses-behind [] more was (told_more setting told more is));
  }

pub losses-none : (setting : Setting) (history : History) → AreLossesSince setting history.entries history
losses-none setting history = record { more = []; grown = sym (append-nil history.entries); failed = tt }

pub losses-same : (setting : Setting) (old : List Entry) (new : History) → new.entries ≡ old → AreLossesSince setting old new
losses-same setting old new same = record { more = []; grown = same ∙ sym (append-nil old); failed = tt }

-- a halt loses nothing
pub losses-halted : {tells : Type 0} {tape : List Operation} {old : List Entry} (setting : Setting) (who : Who) (new : History) → IsEntered tells tape who old new.entries (Halted ∷ []) → AreLossesSince setting old new
losses-halted setting who new entered = record {
  more = one who entered.end Halted ∷ [];
  grown = entered.is;
  failed = (tt, tt);
}

-- what holds of the entries of each role that isn't whole holds of all that an opening enters
pub each-absent : (P : Entry → Type 0) (who : Who) (end : ℕ) (r : Reading) (n : ℕ)
    → ((role : ℕ) → role < n → is_missing r role ≡ true → P (one who end (Lost role Absent)) × P (one who end (Lost role Recovering))) → All P (entries_of who end (absent_losses r n))
unfolding absent_losses
each-absent P who end r zero each = All-nil P
each-absent P who end r (suc n) each =
    subst (λ (l : List Entry). All P l) (sym (entries-both who end (absent_losses r n) (absent_loss r n)))
    (All-append P (entries_of who end (absent_losses r n)) (entries_of who end (absent_loss r n)) (each-absent P who end r n (λ role lt. each role (omega (arith, lt)))) (by_role (role_state r n) refl))
  where
    found : (state : Role) → role_state r n ≡ state → not (is_whole state) ≡ true → P (one who end (Lost n Absent)) × P (one who end (Lost n Recovering))
    found state is not_whole = each n (omega arith) (ap (λ (s : Role). not (is_whole s)) is ∙ not_whole)

    by_role : (state : Role) → role_state r n ≡ state → All P (entries_of who end (found_loss n state))
    by_role (Whole slot) is = All-nil P
    by_role (HeldInPart slot) is = All-cons P (one who end (Lost n Recovering)) [] (found (HeldInPart slot) is refl).1 (All-nil P)
    by_role Missing is = All-cons P (one who end (Lost n Absent)) [] (found Missing is refl).0 (All-nil P)

-- an opening tells what wasn't whole there
pub losses-found : (setting : Setting) (new : History) (r : Reading) (n end : ℕ) (more : List Entry) → ((role : ℕ) → role < n → is_missing r role ≡ true → setting.tells → MissingAtFirst (history_world setting new) role)
    → AreLossesBehind setting new (entries_of opener end (absent_losses r n)) more → new.entries ≡ entries_of opener end (absent_losses r n) ++ more → AreLossesSince setting [] new
losses-found setting new r n end more missing others is = record {
  more = entries_of opener end (absent_losses r n) ++ more;
  grown = is;
  failed = behind-append setting new [] (entries_of opener end (absent_losses r n)) more
      (behind-start setting new [] (entries_of opener end (absent_losses r n)) (each-absent (λ e. IsLossSince setting (with_entries [] new) e.event) opener end r n (λ role lt is. (missing role lt is, missing role lt is)))) others;
}

pub losses-wider : (was now : Setting) → IsWider was now → (old : List Entry) (new : History) → AreLossesSince was old new → AreLossesSince now old new
losses-wider was now wider old new lost = record { more = lost.more; grown = lost.grown; failed = behind-wider was now wider new new (opened-same new) old lost.more lost.failed }

-- one after the other
pub losses-then : (was next now : Setting) → IsWider was now → IsWider next now → (old : List Entry) (mid new : History) → IsHistoryLater mid new → AreLossesSince was old mid → AreLossesSince next mid.entries new → AreLossesSince now old new
losses-then was next now wider_was wider_next old mid new later lost more = record {
  more = lost.more ++ more.more;
  grown = more.grown ∙ ap (λ (l : List Entry). l ++ more.more) lost.grown ∙ append_assoc old lost.more more.more;
  failed = behind-append now new old lost.more more.more
      (behind-wider was now wider_was mid new later.same old lost.more lost.failed)
      (subst (λ (l : List Entry). AreLossesBehind now new l more.more) lost.grown (behind-wider next now wider_next new new (opened-same new) mid.entries more.more more.failed));
}

-- the whole history of an array that began with none
pub losses-whole : (setting : Setting) (history : History) → AreLossesSince setting [] history → AreLossesBehind setting history [] history.entries
losses-whole setting history was = subst (λ (l : List Entry). AreLossesBehind setting history [] l) (sym was.grown) was.failed

-- ---- several histories

pub losses-kept : (setting : Setting) (histories : List History) → AreLossesFrom setting histories histories
losses-kept setting [] = tt
losses-kept setting (h ∷ histories) = (losses-none setting h, losses-kept setting histories)

-- the last history went on
pub losses-last : (setting : Setting) (histories : List History) (old new : History) → AreLossesSince setting old.entries new → AreLossesFrom setting (histories ++ old ∷ []) (histories ++ new ∷ [])
losses-last setting [] old new was = (was, tt)
losses-last setting (h ∷ histories) old new was = (losses-none setting h, losses-last setting histories old new was)

-- a history came
pub losses-came : (setting : Setting) (histories : List History) (new : History) → AreLossesSince setting [] new → AreLossesFrom setting histories (histories ++ new ∷ [])
losses-came setting [] new lost = (lost, tt)
losses-came setting (h ∷ histories) new lost = (losses-none setting h, losses-came setting histories new lost)

pub losses_add : (was next now : Setting) → IsWider was now → IsWider next now → (olds news : List History) → AreGrown olds news → AreLossesFrom was [] olds → AreLossesFrom next olds news → AreLossesFrom now [] news
losses_add was next now wider_was wider_next [] [] grown lost more = tt
losses_add was next now wider_was wider_next [] (new ∷ news) grown lost (one, more) = (losses-wider next now wider_next [] new one, losses_add was next now wider_was wider_next [] news tt tt more)
losses_add was next now wider_was wider_next (old ∷ olds) [] grown lost more = absurd more
losses_add was next now wider_was wider_next (old ∷ olds) (new ∷ news) (grew, grown) (one, lost) (two, more) = (
  losses-then was next now wider_was wider_next [] old new (record { same = record { uuid = grew.uuid; given = grew.given; first = grew.first }; more = grew.more; grown = grew.grown }) one two,
  losses_add was next now wider_was wider_next olds news grown lost more,
)
