-- A reshape that moves the data and leaves the parity of the new rows is found out where it finishes; one with parity that
-- fits is right.
use Rattle.std.proofs.Common.{◌≡◌, ℕ, ◌<◌, ◌≤◌, inl, inr, List, [], ◌∷◌, replicate, length, get_or, ◌/◌, refl, sym, ap, ◌∙◌, subst, option_map, MatchOption, Some, None, Option, lit≤, arith}
use Rattle.history.specs.raid_types_the_Shape.{Shape}
use Rattle.history.specs.raid_types_Search.{tabulate, count_below}
use Rattle.history.proofs.raid_types_Tabulated.{get_or-tabulate}
use Rattle.std.proofs.lemmas.List.{get_or-replicate}
use Rattle.history.specs.bank_the_Operation_TheVariants.{Write, Flush}
use Rattle.history.specs.bank_Tape.{Contents}
use Rattle.history.proofs.bank_Listed.{Slot, listed}
use Rattle.history.specs.sb_specs_Reading.{Reading, reading, shape_of, target_of}
use Rattle.history.specs.declared.events.Event.TheVariants.{Step}
use Rattle.history.specs.declared.events.StepKind.TheVariants.{Finished}
use Rattle.history.specs.declared.events.Entry.{Entry}
use Rattle.history.specs.World.{World, contents_at, reading_at}
use Rattle.history.specs.Losses.{is_gone_after}
use Rattle.history.specs.Legal.{target_at}
use Rattle.history.specs.Reshaped.{IsReshaped, IsConsistentAt, IsConsistentBy, IsGoodRow, AreTooManyGone}
use Rattle.history.specs.Stands.{held_row}
use Rattle.history.specs.raid_layout_Layout.{row_roles, stripe_p}
use Rattle.history.specs.raid_parity_Parity.{Row, lacking_in, AreEquationsMet}
use Rattle.history.proofs.raid_parity_ParityChecks.{left_after, zero_row}
use Rattle.history_examples.proofs.SmallReshape.{reshaping, three, superblock, member, scope}

-- At the end of the windows. Row 0 of the new shape has a one on role 0, and nothing on role 1 and on role 2, its P.
abbrev slots : List Slot
slots = member (superblock (reshaping 32 255) 0 5) ((1 ∷ []) ∷ replicate 31 []) ∷ member (superblock (reshaping 32 255) 1 5) (replicate 32 [])
    ∷ member (superblock (reshaping 32 255) 2 5) (replicate 32 []) ∷ replicate 24 [] ∷ []

abbrev world : World
world = record {
  start = listed slots;
  tape = Write 0 8 (superblock three 0 6) ∷ Flush 0 ∷ Write 1 8 (superblock three 1 6) ∷ Flush 1 ∷ Write 2 8 (superblock three 2 6) ∷ Flush 2 ∷ [];
  scope = scope slots;
  first = 0;
}

abbrev entries : List Entry
entries = record { caller = 0; number = 0; end = 6; event = Step Finished 0 } ∷ []

abbrev shape : Shape
shape = record { level = 5; layout = 2; chunk = 8; disks = 3 }

goes-to : target_at world 0 ≡ Some shape
unfolding tabulate reading reading_at
goes-to = refl

-- what the slots hold in the end
abbrev finished : Contents
finished = contents_at world 6

size-is : option_map (λ r. r.newest.size) (reading (scope slots) finished) ≡ Some 32
unfolding tabulate reading
size-is = refl

row-is : option_map (λ r. held_row finished r shape 0) (reading (scope slots) finished) ≡ Some (Some (1 ∷ []) ∷ Some [] ∷ Some [] ∷ [])
unfolding tabulate reading
row-is = refl

same-some : {X : Type 0} (a b : X) → Some a ≡ Some b → a ≡ b
same-some a b same = cc

not-good : (found : Option Reading) → option_map (λ r. r.newest.size) found ≡ Some 32
    → option_map (λ r. held_row finished r shape 0) found ≡ Some (Some (1 ∷ []) ∷ Some [] ∷ Some [] ∷ [])
    → MatchOption found ⊥ (IsConsistentBy finished shape) → ⊥
not-good None size row consistent = consistent
not-good (Some r) size row consistent =
    let rows : r.newest.size ≡ 32 = same-some r.newest.size 32 size in
    let held : held_row finished r shape 0 ≡ Some (1 ∷ []) ∷ Some [] ∷ Some [] ∷ [] =
    same-some (held_row finished r shape 0) (Some (1 ∷ []) ∷ Some [] ∷ Some [] ∷ []) row in
    left_after (subst (λ (row : Row). AreEquationsMet (row_roles shape 0) row) held (consistent.rows 0 (omega (arith, rows))).parity)

none-gone : AreTooManyGone world entries shape → ⊥
unfolding count_below is_gone_after
none-gone too_many = absurd (omega (arith, too_many))

not-right : IsReshaped world entries → ⊥
not-right reshaped = by_kind (subst (λ to. MatchOption to ⊥ (IsConsistentAt world entries 6)) goes-to reshaped.0.finished)
  where
    by_kind : IsConsistentAt world entries 6 shape → ⊥
    by_kind (inl consistent) = not-good (reading (scope slots) finished) size-is row-is consistent
    by_kind (inr too_many) = none-gone too_many

-- ---- with parity that fits

-- the same over empty rows, whose parity is zero
abbrev empty_slots : List Slot
empty_slots = member (superblock (reshaping 32 255) 0 5) (replicate 32 []) ∷ member (superblock (reshaping 32 255) 1 5) (replicate 32 [])
    ∷ member (superblock (reshaping 32 255) 2 5) (replicate 32 []) ∷ replicate 24 [] ∷ []

abbrev empty : World
empty = record { start = listed empty_slots; tape = world.tape; scope = scope empty_slots; first = 0 }

empty-goes-to : target_at empty 0 ≡ Some shape
unfolding tabulate reading reading_at
empty-goes-to = refl

abbrev emptied : Contents
emptied = contents_at empty 6

abbrev zeros : Row
zeros = Some [] ∷ Some [] ∷ Some [] ∷ []

-- the reading has this shape alone, and all its rows are such
shape-of : option_map (λ r. shape_of r.newest) (reading (scope empty_slots) emptied) ≡ Some shape
unfolding tabulate reading
shape-of = refl

target-of : option_map (λ r. target_of r.newest) (reading (scope empty_slots) emptied) ≡ Some None
unfolding tabulate reading
target-of = refl

empty-size : option_map (λ r. r.newest.size) (reading (scope empty_slots) emptied) ≡ Some 32
unfolding tabulate reading
empty-size = refl

rows-are : option_map (λ r. tabulate 32 (held_row emptied r shape)) (reading (scope empty_slots) emptied) ≡ Some (replicate 32 zeros)
unfolding tabulate reading
rows-are = refl

good-row : (r : Reading) → tabulate 32 (held_row emptied r shape) ≡ replicate 32 zeros → (row : ℕ) → row < 32 → IsGoodRow emptied r shape row
good-row r rows row lt =
    let held : held_row emptied r shape row ≡ zeros =
    sym (get_or-tabulate 32 (held_row emptied r shape) row [] lt) ∙ ap (λ l. get_or l row []) rows ∙ get_or-replicate 32 row zeros [] lt in
    record {
      tolerated = subst (λ (row : Row). length (lacking_in row) ≤ 1) (sym held) (lit≤ tt);
      parity = subst (λ (held : Row). AreEquationsMet (row_roles shape row) held) (sym held) (zero_row (stripe_p shape (row / 8)));
    }

consistent-by : (found : Option Reading) → option_map (λ r. shape_of r.newest) found ≡ Some shape
    → option_map (λ r. target_of r.newest) found ≡ Some None → option_map (λ r. r.newest.size) found ≡ Some 32
    → option_map (λ r. tabulate 32 (held_row emptied r shape)) found ≡ Some (replicate 32 zeros)
    → MatchOption found ⊥ (IsConsistentBy emptied shape)
consistent-by None shaped alone size rows = absurd (cc (shaped))
consistent-by (Some r) shaped alone size rows =
    let rows_up : r.newest.size ≡ 32 = same-some r.newest.size 32 size in
    record {
      shaped = same-some (shape_of r.newest) shape shaped;
      alone = same-some (target_of r.newest) None alone;
      rows = λ row lt. good-row r (same-some (tabulate 32 (held_row emptied r shape)) (replicate 32 zeros) rows) row (omega (arith, lt, rows_up));
    }

consistent : IsConsistentAt empty entries 6 shape
consistent = inl (consistent-by (reading (scope empty_slots) emptied) shape-of target-of empty-size rows-are)

right : IsReshaped empty entries
right = (
  record {
    finished = subst (λ to. MatchOption to ⊥ (IsConsistentAt empty entries 6)) (sym empty-goes-to) consistent;
    plans = tt;
  },
  tt,
)
