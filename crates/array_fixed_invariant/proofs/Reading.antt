-- A read of the list, from what it leaves: it was done, or refused behind what it lost.
use Rattle.std.proofs.Common.{◌≡◌, ◌⊎◌, inl, inr, ℕ, ◌+◌, ◌/◌, ◌<◌, ◌≤◌, ◌==◌, Option, None, List, [], ◌∷◌, ◌++◌, length, fold, refl, sym, ◌∙◌, ap, subst, arith, append-nil}
use Rattle.std.specs.Prelude.{IsFalse, slice_index_or, min}
use Rattle.std.specs.Option.{option_map_or}
use Rattle.std.proofs.lemmas.List.Sums.{fold-append}
use Rattle.array_reshaping_invariant.specs.raid_types_Sectors.{Sector, sectors_of}
use Rattle.array_reshaping_invariant.specs.raid_types_the_Who.{Who}
use Rattle.array_call_laws.proofs.raid_types_SectorLaws.{length-sectors_of}
use Rattle.array_reshaping_invariant.specs.bank_the_Operation.{Operation}
use Rattle.array_reshaping_invariant.specs.bank_Given.{Given}
use Rattle.array_reshaping_invariant.specs.raid_parity_Rows.{sector_of}
use Rattle.array_reshaping_invariant.specs.sb_specs_the_Members.{Members}
use Rattle.array_reshaping_invariant.specs.sb_specs_Reading.{Scope, list_length}
use Rattle.array_reshaping_invariant.specs.stripe_row_Rows.{present}
use Rattle.array_reshaping_invariant.specs.history_the_Entry.{Entry}
use Rattle.array_reshaping_invariant.specs.history_the_Event.{Event}
use Rattle.array_reshaping_invariant.specs.history_the_Event_TheVariants.{Read}
use Rattle.array_reshaping_invariant.specs.history_Flat.{now, length_of, limit_of, limit_after, visible_of, values_of, values_after}
use Rattle.array_reshaping_invariant.specs.history_Legal.{visible_at}
use Rattle.array_reshaping_invariant.specs.history_Plain.{entries_of}
use Rattle.array_reshaping_invariant.specs.history_Sound.{OpensFit}
use Rattle.array_reshaping_invariant.specs.history_Transfers.{IsReadOver}
use Rattle.array_reshaping_invariant.specs.history_World.{opening_list}
use Rattle.array_reshaping_invariant.specs.crash_views_Regions.{DoWithout}
use Rattle.array_reshaping_invariant.specs.array_members_the_Work.{Work}
use Rattle.array_reshaping_invariant.specs.array_members_Lacking.{ListStands, RowsStandBelow, synced_rows}
use Rattle.array_reshaping_invariant.specs.array_members_Placed.{AreWhole}
use Rattle.array_reshaping_invariant.proofs.array_members_LackingLists.{row-sector}
use Rattle.array_reshaping_invariant.proofs.array_members_LiveLeft.{without-left}
use Rattle.array_reshaping_invariant.specs.history_append_Losing.{losses_of}
use Rattle.array_reshaping_invariant.proofs.history_append_CallLaws.{losses-are, length-losses, limit-losses, values-losses}
use Rattle.array_reshaping_invariant.proofs.array_call_specs_NowLaws.{sectors_of-at}
use Rattle.array_reshaping_invariant.specs.history_invariant_Recorded.{IsCallGoing}
use Rattle.array_reshaping_invariant.specs.history_invariant_Safe.{world_in}
use Rattle.array_reshaping_invariant.proofs.history_invariant_Entered.{values-more, length-more}
use Rattle.array_reshaping_invariant.specs.history_invariant_laws_Reliable.{IsReliable, AreToldGone}
use Rattle.array_fixed_invariant.specs.Still.{HasListStood, IsStill}
use Rattle.array_fixed_invariant.proofs.Leaving.{list-later, fit-earlier}
use Rattle.array_fixed_invariant.proofs.Staying.{IsNamedStill, stays-stands}
use Rattle.array_fixed_invariant.proofs.Whole.{whole-told, takes-first}

-- ---- behind losses

module _ (entries : List Entry) (who : Who) (end roles spares : ℕ) where
  alone : (P : List Event → Type 0) → P (losses_of roles spares ++ []) → P (losses_of roles spares)
  alone P is = subst P (append-nil (losses_of roles spares)) is

  -- as much of the list is visible
  pub visible-behind : (n : ℕ) → visible_of n (entries ++ entries_of who end (losses_of roles spares)) ≡ visible_of n entries
  visible-behind n = λ i. option_map_or (λ limit. min limit (long i)) (limited i) (long i)
    where
      long : length_of n (entries ++ entries_of who end (losses_of roles spares)) ≡ length_of n entries
      long = length-more n entries (entries_of who end (losses_of roles spares))
          ∙ alone (λ (l : List Event). length_of (length_of n entries) (entries_of who end l) ≡ length_of n entries) (length-losses who end (losses_of roles spares) [] (losses-are roles spares) (length_of n entries))

      limited : limit_of (entries ++ entries_of who end (losses_of roles spares)) ≡ limit_of entries
      limited = fold-append (λ (limit : Option ℕ) e. limit_after limit e.event) None entries (entries_of who end (losses_of roles spares))
          ∙ alone (λ (l : List Event). fold (λ (limit : Option ℕ) e. limit_after limit e.event) (limit_of entries) (entries_of who end l) ≡ limit_of entries) (limit-losses who end (losses_of roles spares) [] (losses-are roles spares) (limit_of entries))

  -- and each sector holds what it held
  pub now-behind : (list : List Sector) (x : ℕ) → now list (entries ++ entries_of who end (losses_of roles spares)) x ≡ now list entries x
  now-behind list x = ap (λ (l : List Sector). slice_index_or l 0 [])
      (values-more list entries (entries_of who end (losses_of roles spares)) x
      ∙ alone (λ (l : List Event). fold (λ values e. values_after x values e.event) (values_of list entries x) (entries_of who end l) ≡ values_of list entries x)
      (values-losses who end (losses_of roles spares) [] (losses-are roles spares) x (values_of list entries x)))

-- ---- a read that isn't done

module _ (tells : Type 0) (given : Given) (tape tape' : List Operation) (scope : Scope) (first : ℕ) (entries : List Entry) (old new : Members) (work : Work) (left left' : ℕ)
    (who : Who) (end roles spares : ℕ) (before after : ℕ → ℕ)
    (was : IsStill tells given tape scope first entries old work left) (does : DoWithout old) (goes : IsCallGoing entries who) (caller : IsFalse (who.caller == 254)) (at_end : tells → end ≡ length tape')
    (named : IsNamedStill tells given tape tape' old new roles spares before after) (alike : losses_of roles spares ≡ [] → left' ≡ left) where
  -- ---- one that is done

  pub read-stands : (at : ℕ) (bytes : List ℕ) → at + length bytes / 512 ≤ list_length old.newest → (tells → at + length bytes / 512 ≤ visible_at (world_in given tape scope first) entries)
      → (tells → (list : ℕ → Sector) → ListStands old (present given tape) list → AreWhole new ⊎ RowsStandBelow (synced_rows work.resync old) old (present given tape) list
      → (i : ℕ) → i < length bytes / 512 → sector_of bytes i ≡ list (at + i))
      → IsStill tells given tape' scope first (entries ++ entries_of who end (losses_of roles spares ++ Read at (sectors_of bytes) ∷ [])) new work left'
  read-stands at bytes inside seen holds =
      stays-stands tells given tape tape' scope first entries old new work left left' who end roles spares before after (Read at (sectors_of bytes)) was
      (without-left given old was.members_are.placed was.members_are.unlost does) goes caller at_end named
      (record { adds = refl; gives = refl; ends = refl; still = λ x values. refl; level = λ n. refl; other = refl }) alike (λ told is. is)
      (λ t all right gone level. legal t all right gone)
    where
      body : List Sector
      body = sectors_of bytes

      opened : tells → opening_list (world_in given tape' scope first) ≡ opening_list (world_in given tape scope first)
      opened t = list-later given scope first named.grows (λ u. (was.recorded u).begun) t

      -- what it fills in is right
      filled : (t : tells) → IsReliable (world_in given tape' scope first) (entries ++ entries_of who end (losses_of roles spares ++ Read at (sectors_of bytes) ∷ []))
          → AreToldGone (world_in given tape' scope first) (entries ++ entries_of who end (losses_of roles spares)) new
          → HasListStood (OpensFit (world_in given tape scope first)) work old (present given tape) (now (opening_list (world_in given tape scope first)) entries)
          → AreWhole new ⊎ RowsStandBelow (synced_rows work.resync old) old (present given tape) (now (opening_list (world_in given tape scope first)) entries)
      filled t all gone l = elim all.fills [
        | inl none ↦ inl (whole-told (world_in given tape' scope first) (entries ++ entries_of who end (losses_of roles spares)) new
            (takes-first (world_in given tape' scope first) entries who end (losses_of roles spares) (Read at (sectors_of bytes) ∷ []) none.0) gone)
        | inr fit ↦ inr (l.rows (fit-earlier given scope first named.grows (λ u. (was.recorded u).begun) t fit))
      ]

      legal : (t : tells) → IsReliable (world_in given tape' scope first) (entries ++ entries_of who end (losses_of roles spares ++ Read at (sectors_of bytes) ∷ []))
          → IsReliable (world_in given tape scope first) entries → AreToldGone (world_in given tape' scope first) (entries ++ entries_of who end (losses_of roles spares)) new
          → IsReadOver (opening_list (world_in given tape' scope first)) (entries ++ entries_of who end (losses_of roles spares)) at (sectors_of bytes)
      legal t all right gone =
          let l = was.listed t does right.fills in
          let list = now (opening_list (world_in given tape scope first)) entries in
          record {
            within =
                let same : visible_of (length (opening_list (world_in given tape' scope first))) (entries ++ entries_of who end (losses_of roles spares)) ≡ visible_at (world_in given tape scope first) entries =
                visible-behind entries who end roles spares (length (opening_list (world_in given tape' scope first))) ∙ ap (λ (o : List Sector). visible_of (length o) entries) (opened t) in
                let n = length-sectors_of bytes in
                let all_seen = seen t in
                omega (arith, all_seen, n, same);
            holds = λ i lt.
                let n = length-sectors_of bytes in
                let below : i < length bytes / 512 = omega (arith, lt, n) in
                sectors_of-at i bytes below ∙ sym (row-sector bytes i)
                ∙ holds t list l.stands (filled t all gone l) i below
                ∙ ap (λ (o : List Sector). now o entries (at + i)) (sym (opened t)) ∙ sym (now-behind entries who end roles spares (opening_list (world_in given tape' scope first)) (at + i));
          }
