-- A read of an array without an active reshape, from what `read_listed` says of it; and why a read or a write isn't done.
use Rattle.std.proofs.Common.{◌≡◌, ◌⊎◌, inl, inr, ℕ, ◌+◌, ◌/◌, ◌<◌, ◌≤◌, false, Option, List, [], ◌∷◌, ◌++◌, length, refl, sym, ◌∙◌, ap, subst}
use Rattle.std.proofs.Math.Nat.{le_trans}
use Rattle.array_fixed_invariant.specs.raid_types_Sectors.{Sector}
use Rattle.array_specs.specs.raid_types_the_Refusal.{Refusal}
use Rattle.array_specs.specs.raid_types_the_Refusal_TheVariants.{PastEnd}
use Rattle.array_fixed_invariant.specs.raid_types_the_Who.{Who}
use Rattle.array_fixed_invariant.specs.raid_types_the_Shape.{Shape}
use Rattle.array_fixed_invariant.specs.bank_the_Operation.{Operation}
use Rattle.array_fixed_invariant.specs.bank_Given.{Given}
use Rattle.array_fixed_invariant.specs.raid_parity_Rows.{sector_of}
use Rattle.array_fixed_invariant.specs.sb_specs_the_Members.{Members}
use Rattle.array_fixed_invariant.specs.sb_specs_Reading.{Scope, is_reshaping, shape_of, list_length}
use Rattle.array_fixed_invariant.proofs.sb_specs_ValidFields.{few-roles}
use Rattle.array_fixed_invariant.specs.stripe_row_Rows.{present}
use Rattle.array_fixed_invariant.specs.stripe_list_Buffers.{IsTouched}
use Rattle.array_fixed_invariant.specs.history_the_Entry.{Entry}
use Rattle.array_fixed_invariant.specs.history_the_Event.{Event}
use Rattle.array_fixed_invariant.specs.history_Flat.{now, limit_of}
use Rattle.array_fixed_invariant.specs.history_Legal.{visible_at, IsRefusedRight}
use Rattle.array_fixed_invariant.specs.history_Losses.{loses}
use Rattle.array_fixed_invariant.specs.history_Plain.{entries_of}
use Rattle.array_fixed_invariant.specs.history_World.{opening_list}
use Rattle.array_fixed_invariant.specs.crash_views_Regions.{DoWithout}
use Rattle.array_fixed_invariant.proofs.crash_views_Stands.{list-still}
use Rattle.array_fixed_invariant.specs.array_members_the_Work.{Work}
use Rattle.array_fixed_invariant.specs.array_members_Lacking.{AreLostSince, IsUnread, IsUnwritten, ListStands, RowsStandBelow, DataStandsAmong, RowsStandAmong, are_synced, synced_rows}
use Rattle.array_fixed_invariant.specs.array_members_Moving.{IsMoved}
use Rattle.array_fixed_invariant.specs.array_members_Placed.{AreWhole, places_of}
use Rattle.array_fixed_invariant.specs.array_members_Whole.{list_size}
use Rattle.array_fixed_invariant.proofs.array_members_MovedLaws.{grows-none}
use Rattle.array_fixed_invariant.specs.history_append_Losing.{losses_of}
use Rattle.array_fixed_invariant.specs.array_call_specs_Calls.{IsRefusedHere, IsRefusedFor}
use Rattle.array_fixed_invariant.proofs.array_call_specs_DegradedLaws.{unread-here, unwritten-here, pending-of}
use Rattle.array_fixed_invariant.proofs.array_call_laws_TouchedLaws.{holds-fetched}
use Rattle.array_fixed_invariant.specs.history_invariant_Safe.{world_in, is_taken_over, IsFilledRight}
use Rattle.array_fixed_invariant.proofs.history_invariant_Tests.{none-before}
use Rattle.array_fixed_invariant.specs.history_invariant_laws_Reliable.{IsReliable}
use Rattle.array_fixed_invariant.proofs.history_invariant_laws_Behind.{IsAmong, early-losses}
use Rattle.array_fixed_invariant.specs.Still.{AreAtRest, IsStill}
use Rattle.array_fixed_invariant.proofs.Leaving.{none-taken}
use Rattle.array_fixed_invariant.proofs.Refusals.{IsRefusedStill, too-many-refused, refused-right}
use Rattle.array_fixed_invariant.proofs.Staying.{missing-since}
use Rattle.array_specs.specs.array_reshaping_state_Left.{visible_by}
use Rattle.array_specs.specs.Parts.{visible_size}
use Rattle.array_specs.proofs.VisibleLaws.{visible-is, visible-within}

-- ---- why it isn't done

-- so much of the list is visible
pub seen : {tells : Type 0} {given : Given} {tape : List Operation} {scope : Scope} {first : ℕ} {entries : List Entry} {members : Members} {work : Work} {limit : Option ℕ} {left : ℕ}
    → IsStill tells given tape scope first entries members work left → limit_of entries ≡ limit → tells → visible_at (world_in given tape scope first) entries ≡ visible_size members limit
seen {given = given} {tape = tape} {scope = scope} {first = first} {entries = entries} {members = members} {limit = limit} was limited t =
    visible-is (length (opening_list (world_in given tape scope first))) (list_length members.newest) limit entries (was.recorded t).sized limited

-- by the sectors of its rows
pub visible-still : (m : Members) (limit : Option ℕ) (size sectors : ℕ) → is_reshaping m.newest ≡ false → size ≡ list_size (places_of m) → sectors ≡ visible_by size limit → sectors ≡ visible_size m limit
visible-still m limit size sectors still sized is = is ∙ ap (λ (n : ℕ). visible_by n limit) (sized ∙ sym (list-still m.newest still))

module _ (given : Given) (m : Members) (rest : AreAtRest given m) (resync : Option ℕ) where
  long : list_length m.newest ≡ list_size (places_of m)
  long = list-still m.newest rest.still

  pub unread-still : (at count : ℕ) (refusal : Refusal) → at + count ≤ list_length m.newest → IsUnread (shape_of m.newest) (synced_rows resync m) at count m refusal → IsRefusedStill resync m refusal
  unread-still at count refusal within (inl many) = too-many-refused resync m refusal (inl many)
  unread-still at count refusal within (inr found) = subst (IsRefusedStill resync m) (sym found.1)
      (subst (IsRefusedHere (list_size (places_of m)) resync m) found.1
      (unread-here given (list_size (places_of m)) at count (synced_rows resync m) resync m refusal rest.placed (subst (λ (n : ℕ). at + count ≤ n) long within) (λ none. ap (λ (o : Option ℕ). synced_rows o m) none) (inr found)))

  pub unwritten-still : (to : ℕ) (refusal : Refusal) → to ≤ list_length m.newest → IsUnwritten (shape_of m.newest) (are_synced (shape_of m.newest) (synced_rows resync m) to) m refusal → IsRefusedStill resync m refusal
  unwritten-still to refusal within (inl many) = too-many-refused resync m refusal (inl many)
  unwritten-still to refusal within (inr found) = subst (IsRefusedStill resync m) (sym found.1)
      (subst (IsRefusedHere (list_size (places_of m)) resync m) found.1
      (unwritten-here given (list_size (places_of m)) resync (are_synced (shape_of m.newest) (synced_rows resync m) to) m refusal rest.placed (pending-of m resync to (subst (λ (n : ℕ). to ≤ n) long within)) (inr found)))

-- a call that is refused before anything is done
pub refused-first : {tells : Type 0} {given : Given} {tape : List Operation} {scope : Scope} {first : ℕ} {entries : List Entry} {members : Members} {work : Work} {limit : Option ℕ} {left : ℕ}
    → IsStill tells given tape scope first entries members work left → limit_of entries ≡ limit → (to : ℕ) (why : Members → Refusal → Type 0) (refusal : Refusal)
    → (to ≤ list_length members.newest → why members refusal → IsRefusedStill work.resync members refusal) → IsRefusedFor (visible_size members limit) to why members members refusal
    → tells → IsReliable (world_in given tape scope first) entries → IsRefusedRight (world_in given tape scope first) entries refusal
refused-first was limited to why (PastEnd told) here w t right = w.0 ∙ sym (seen was limited t)
refused-first {given = given} {tape = tape} {scope = scope} {first = first} {entries = entries} {members = members} {work = work} {limit = limit} was limited to why refusal here w t right =
    refused-right (world_in given tape scope first) entries given members was.members_are.placed work.resync (was.gone t right) (was.levelled t right) (was.pending t) refusal
    (here (le_trans w.0 (visible-within (list_length members.newest) limit)) w.1)

-- ---- what was read

-- by the whole list
pub fetched-holds : {tells : Type 0} (given : Given) (tape : List Operation) (old new : Members) (resync : Option ℕ) (shape : Shape) (at asked mended : ℕ) (bytes : List ℕ)
    → shape ≡ shape_of old.newest → mended ≡ synced_rows resync old → length bytes / 512 ≡ asked
    → (tells → (list : ℕ → Sector) → DataStandsAmong shape (IsTouched shape at asked) old (present given tape) list
    → AreWhole new ⊎ RowsStandAmong shape (λ row. IsTouched shape at asked row × (row < mended)) old (present given tape) list → (i : ℕ) → i < asked → sector_of bytes i ≡ list (at + i))
    → tells → (list : ℕ → Sector) → ListStands old (present given tape) list → AreWhole new ⊎ RowsStandBelow (synced_rows resync old) old (present given tape) list
    → (i : ℕ) → i < length bytes / 512 → sector_of bytes i ≡ list (at + i)
fetched-holds given tape old new resync shape at asked mended bytes is rows count holds t list stands filled =
    holds-fetched shape old new is (present given tape) (IsTouched shape at asked) mended (λ (list : ℕ → Sector). (k : ℕ) → k < length bytes / 512 → sector_of bytes k ≡ list (at + k))
    (λ t list stands filled k below. holds t list stands filled k (subst (λ (n : ℕ). k < n) count below)) t list stands
    (subst (λ (n : ℕ). AreWhole new ⊎ RowsStandBelow n old (present given tape) list) (sym rows) filled)

-- where what is filled in is right by the entries behind it
module _ {tells : Type 0} {given : Given} {tape : List Operation} {scope : Scope} {first : ℕ} {entries : List Entry} {old new : Members} {work : Work} {left roles spares : ℕ} {before after : ℕ → ℕ}
    (was : IsStill tells given tape scope first entries old work left) (does : DoWithout old) (who : Who) (end : ℕ) (event : Event) (moved : IsMoved given old new) (since : AreLostSince old new roles spares before after)
    (at : ℕ) (bytes : List ℕ)
    (holds : tells → (list : ℕ → Sector) → ListStands old (present given tape) list → AreWhole new ⊎ RowsStandBelow (synced_rows work.resync old) old (present given tape) list
    → (i : ℕ) → i < length bytes / 512 → sector_of bytes i ≡ list (at + i)) where
  pub read-holds : tells → IsFilledRight (world_in given tape scope first) (entries ++ entries_of who end (losses_of roles spares ++ event ∷ []))
      → (i : ℕ) → i < length bytes / 512 → sector_of bytes i ≡ now (opening_list (world_in given tape scope first)) entries (at + i)
  read-holds t (inl none) =
      let l = was.listed t does (inl (
        λ role. none-before (loses (world_in given tape scope first) role) entries (entries_of who end (losses_of roles spares ++ event ∷ [])) (none.0 role),
        none.1,
        none-before (λ e. is_taken_over e.event) entries (entries_of who end (losses_of roles spares ++ event ∷ [])) none.2,
      )) in
      holds t (now (opening_list (world_in given tape scope first)) entries) l.stands
      (inl (none-taken tells given tape tape scope first entries old new who end (losses_of roles spares ++ event ∷ []) (IsAmong roles) (grows-none (λ u. refl)) (λ u. (was.recorded u).ends)
      (few-roles new.newest moved.placed.fit.valid) (missing-since moved since) (λ role lt has. (early-losses roles spares).lost who end (event ∷ []) role lt has) was.full t none.0 none.2))
  read-holds t (inr fit) =
      let l = was.listed t does (inr fit) in
      holds t (now (opening_list (world_in given tape scope first)) entries) l.stands (inr (l.rows fit))
