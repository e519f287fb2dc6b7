-- A slot is made a spare in a reshape, from what `add_member` says of it: what is kept, done or refused, and what the call leaves.
use Rattle.std.proofs.Common.{◌≡◌, ◌≢◌, inl, ℕ, ◌*◌, ◌<◌, ◌≤◌, ◌==◌, Bool, true, false, List, [], length, Option, Some, refl, sym, ◌∙◌, ap, subst, arith, append-nil}
use Rattle.std.proofs.lemmas.Bool.Decides.{nat_tests}
use Rattle.std.proofs.lemmas.List.Elements.{All-nil}
use Rattle.array_fixed_laws.specs.raid_types_Sectors.{Sector}
use Rattle.array_fixed_laws.specs.raid_types_the_Refusal.{Refusal}
use Rattle.reshape_window_backup.specs.bank_the_Operation.{Operation}
use Rattle.reshape_window_backup.specs.bank_Given.{Given}
use Rattle.reshape_window_backup.specs.bank_Tape.{IsIn, disk}
use Rattle.reshape_window_backup.specs.sb_codec_the_Sb.{Sb}
use Rattle.array_reshaping_resync_laws.specs.sb_specs_the_Members.{Members}
use Rattle.array_reshaping_resync_laws.specs.sb_specs_Reading.{Scope}
use Rattle.array_reshaping_resync_laws.specs.sb_specs_Held.{IsSecondHalf}
use Rattle.array_reshaping_resync_laws.specs.history_the_Entry.{Entry}
use Rattle.array_reshaping_resync_laws.specs.crash_views_Regions.{DoWithout, backup_of}
use Rattle.array_reshaping_resync_laws.specs.array_members_the_Work.{Work}
use Rattle.array_reshaping_resync_laws.specs.array_members_Flushing.{OnlyFlushesAdded}
use Rattle.array_reshaping_resync_laws.specs.array_members_Lacking.{AreLostSince}
use Rattle.array_reshaping_resync_laws.specs.array_members_Moving.{Grows}
use Rattle.array_reshaping_resync_laws.specs.array_members_Numbers.{bears, bearing, free_number, IsOfScope}
use Rattle.array_reshaping_resync_laws.specs.array_members_Placed.{IsPlaced}
use Rattle.array_reshaping_resync_laws.specs.array_members_Rebuilding.{Held, with_spare}
use Rattle.array_reshaping_resync_laws.specs.array_members_Under.{IsRestKept}
use Rattle.array_reshaping_resync_laws.proofs.history_append_BearerLaws.{bears-more, bears-new}
use Rattle.array_reshaping_resync_laws.proofs.array_members_MovedLaws.{grows-none, grows-then}
use Rattle.array_fixed_laws.specs.array_call_specs_Kept.{scope_in}
use Rattle.array_fixed_laws.specs.array_call_specs_Calls.{IsUnaddable, IsLossBy, WasSpare, AreLossesOf, IsEndOf, IsWorkAdded}
use Rattle.array_fixed_laws.proofs.array_call_specs_ReadyLaws.{list-same}
use Rattle.array_fixed_laws.proofs.array_call_laws_AddLaws.{slot-free}
use Rattle.array_fixed_laws.proofs.array_call_laws_AddedKept.{AddsSafe}
use Rattle.array_fixed_laws.proofs.array_call_laws_AddedNumbers.{work-kept, work-added}
use Rattle.array_fixed_laws.proofs.array_call_laws_AddedLosses.{IsAddDone, spares-added}
use Rattle.array_reshaping_resync_laws.specs.reshape_request_the_PhasesLeft.{PhasesLeft}
use Rattle.array_reshaping_resync_laws.specs.reshape_progress_the_Course.{Course}
use Rattle.array_reshaping_resync_laws.proofs.array_reshaping_invariant_AddedSpare.{IsSpareMade}
use Rattle.array_reshaping_resync_laws.proofs.array_reshaping_invariant_Steps.{missing-since}
use Rattle.array_fixed_laws.specs.array_specs_Parts.{RunningParts}
use Rattle.array_fixed_laws.specs.array_specs_Calls.{IsCalled}
use Rattle.array_fixed_laws.specs.array_specs_Adding.{IsAddCalled}
use Rattle.array_reshaping_laws.specs.Ready.{IsReady}

-- ---- room for more entries

pub with-room : {tells : Type 0} {given : Given} {tape : List Operation} {scope : Scope} {first : ℕ} {entries entries' : List Entry} {members : Members} {work : Work} {course : Course} {ahead : PhasesLeft}
    {limit : Option ℕ} {window : List ℕ} {faults : ℕ → ℕ} {steps room room' rows buffer far_rows far_buffer : ℕ} → entries' ≡ entries → 50 * steps < room'
    → IsReady tells given tape scope first entries members work course ahead limit window faults steps room rows buffer far_rows far_buffer
    → IsReady tells given tape scope first entries' members work course ahead limit window faults steps room' rows buffer far_rows far_buffer
with-room {tells = tells} {given = given} {tape = tape} {scope = scope} {first = first} {members = members} {work = work} {course = course} {ahead = ahead} {limit = limit} {window = window} {faults = faults} {steps = steps} {room' = room'}
    {rows = rows} {buffer = buffer} {far_rows = far_rows} {far_buffer = far_buffer} same left was =
    subst (λ (l : List Entry). IsReady tells given tape scope first l members work course ahead limit window faults steps room' rows buffer far_rows far_buffer) (sym same) (record {
      kept = was.kept;
      sized = was.sized;
      limited = was.limited;
      full = was.full;
      planned = was.planned;
      wide = was.wide;
      failed = was.failed;
      dead = was.dead;
      room_left = left;
      rows_fit = was.rows_fit;
      buffer_fits = was.buffer_fits;
      far_rows_fit = was.far_rows_fit;
      far_buffer_fits = was.far_buffer_fits;
    })

-- ---- what an update that makes a slot a spare leaves

-- a slot that may be made a spare isn't the backup
pub apart-from : (given : Given) (backup slot : ℕ) (m : Members) → IsPlaced given m → ((refusal : Refusal) → IsUnaddable given (Some backup) slot m refusal → ⊥) → backup ≢ slot
apart-from given backup slot m placed addable same = slot-free given (Some backup) slot m placed addable (inl (equal backup slot same))
  where
    equal : (a b : ℕ) → a ≡ b → (a == b) ≡ true
    equal a b same = grind (arith, nat_tests, same)

-- flushes are made where a slot is looked at
pub looked-grows : {tells : Type 0} {tape mid : List Operation} → (tells → OnlyFlushesAdded tape mid) → Grows tells tape mid
looked-grows looked = record { more = λ t. ((looked t).0, (looked t).2) }

module _ {tells : Type 0} {given : Given} {tape mid tape' : List Operation} {slot : ℕ} {sb : Sb} {old new : Members} {lost : ℕ} {before after : ℕ → ℕ} (scope : Scope) (work : Work) (number roles spares : ℕ)
    (did : IsAddDone tells given slot sb old new lost mid tape' before after) where
  pub spare-made : backup_of scope ≢ slot → DoWithout old → IsOfScope scope given slot sb → sb.dev_number ≡ number → ((s : ℕ) → bears work s number ≡ false) → (tells → OnlyFlushesAdded tape mid)
      → (tells → (sector : Sector) → IsIn (disk given.start mid slot 9) sector → IsSecondHalf sb sector) → (tells → IsRestKept (with_spare slot sb old) (disk given.start mid) (disk given.start tape'))
      → AddsSafe tells given slot sb old new mid tape' → AreLostSince old new roles spares before after
      → IsSpareMade tells given tape mid tape' scope old new (bears work) (bears (bearing false slot number work)) slot sb roles
  spare-made apart does of_scope is unknown looked second rest safe since = record {
    there = did.there;
    apart = apart;
    untaken = did.untaken;
    does = does;
    made = did.made;
    own = did.own;
    of_scope = of_scope;
    unknown = λ s. ap (bears work s) is ∙ unknown s;
    carries = bears-more slot number work;
    known = ap (bears (bearing false slot number work) slot) is ∙ bears-new false slot number work (let few = did.slots in let lt = did.there in omega (arith, few, lt));
    looked = looked;
    second = second;
    moved = did.moved;
    since = missing-since roles did.moved since.vacant;
    clean = did.clean;
    grows = did.grows;
    others = did.others;
    rest = rest;
    rise = did.rise;
    safe = safe;
  }

-- ---- what the call leaves

-- nothing is done
pub still-called : {B : Type 0} {tells : Type 0} {given : Given} {tape : List Operation} {faults : ℕ → ℕ} {slot : ℕ} {old new : RunningParts B} → new.parts.entries ≡ old.parts.entries
    → new ≡ record old { parts = record old.parts { entries = new.parts.entries } } → IsEndOf tells old.parts.first old.parts.entries tape → IsAddCalled tells given tape tape faults faults slot old new
still-called {tells = tells} {given = given} {tape = tape} {faults = faults} {slot = slot} {old = old} items same ended =
    subst (λ n. IsAddCalled tells given tape tape faults faults slot old n) (sym (same ∙ ap (λ (l : List Entry). record old { parts = record old.parts { entries = l } }) items)) (record {
      grows = grows-none (λ t. refl);
      ended = ended;
      held = λ role s held. held;
      spares = λ s is. inl is;
      losses = record { more = []; grown = sym (append-nil old.parts.entries); failed = All-nil (λ e. IsLossBy (Held old.parts.members) (WasSpare old.parts.members) faults faults e.event) };
      never_falls = λ s. omega arith;
      work = work-kept old.parts.members.newest slot old.parts.work;
      same = record { array = record { uuid = refl; given = refl; first = refl; backup = refl; shape = refl; size = refl; list = λ t. refl }; final = refl; backward = refl; ahead = refl; limit = refl };
    })

-- no slot is made one
pub none-added : {B : Type 0} {tells : Type 0} {given : Given} {tape tape' : List Operation} {before after : ℕ → ℕ} {slot : ℕ} {old new : RunningParts B}
    → IsCalled tells given tape tape' before after old new → IsAddCalled tells given tape tape' before after slot old new
none-added {slot = slot} was = record {
  grows = was.grows;
  ended = was.ended;
  held = was.held;
  spares = λ s is. inl (was.spares s is);
  losses = was.losses;
  never_falls = was.never_falls;
  work = record {
    resync = ap (λ (w : Work). w.resync) was.work;
    rebuilt = ap (λ (w : Work). w.rebuilt) was.work;
    others = λ s number other. ap (λ (w : Work). bears w s number) was.work;
    one = λ number is. inl (sym (ap (λ (w : Work). bears w slot number) was.work) ∙ is);
  };
  same = was.same;
}

-- What an add does over the same bank: the epoch, the phases ahead and the limit are those that they were, and the slot may bear one number more, or bears it only.
pub record AddsNumber {B : Type 0} (only : Bool) (slot number : ℕ) (old new : RunningParts B) : Type 0 where
  pub uuid : new.parts.uuid ≡ old.parts.uuid
  pub given : new.parts.given ≡ old.parts.given
  pub first : new.parts.first ≡ old.parts.first
  pub backup : new.parts.backup ≡ old.parts.backup
  pub work : new.parts.work ≡ bearing only slot number old.parts.work
  pub ahead : new.ahead ≡ old.ahead
  pub limit : new.limit ≡ old.limit

pub add-called : {B : Type 0} {tells : Type 0} {given : Given} {tape mid tape' : List Operation} {before after : ℕ → ℕ} {slot : ℕ} {sb : Sb} {lost : ℕ} {old new : RunningParts B} (only : Bool) (number : ℕ)
    → (tells → OnlyFlushesAdded tape mid) → IsAddDone tells given slot sb old.parts.members new.parts.members lost mid tape' before after → IsEndOf tells new.parts.first new.parts.entries tape'
    → AreLossesOf old.parts.members before after old.parts.entries new.parts.entries → free_number old.parts.members.newest old.parts.work ≡ Some number → AddsNumber only slot number old new
    → (tells → old.parts.first ≤ length tape) → IsAddCalled tells given tape tape' before after slot old new
add-called {tells = tells} {given = given} {tape = tape} {tape' = tape'} {slot = slot} {old = old} {new = new} only number looked did ended losses free epoch begun = record {
  grows = grows;
  ended = ended;
  held = did.moved.held;
  spares = spares-added did;
  losses = losses;
  never_falls = did.counts;
  work = subst (λ (w : Work). IsWorkAdded old.parts.members.newest slot old.parts.work w) (sym epoch.work) (work-added only old.parts.members.newest slot number old.parts.work free);
  same = record {
    array = record {
      uuid = epoch.uuid;
      given = epoch.given;
      first = epoch.first;
      backup = epoch.backup;
      shape = did.moved.shape;
      size = did.moved.size;
      list = list-same given (scope_in given old.parts.uuid old.parts.given old.parts.backup) old.parts.first refl
          (λ i. scope_in given (epoch.uuid i) (epoch.given i) (epoch.backup i)) epoch.first grows begun;
    };
    final = did.moved.reshape.final;
    backward = did.moved.reshape.backward;
    ahead = epoch.ahead;
    limit = epoch.limit;
  };
}
  where
    grows : Grows tells tape tape'
    grows = grows-then (looked-grows looked) did.grows
