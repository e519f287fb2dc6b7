-- What a part of a stripe leaves, said of the whole stripe.
use Rattle.std.proofs.Common.{◌≡◌, ◌⊎◌, inl, inr, ℕ, ◌+◌, ◌<◌, List, Some, ◌∙◌, ap, subst}
use Rattle.sb_safe_updates.specs.raid_types_Sectors.{Sector}
use Rattle.sb_safe_updates.specs.raid_types_the_Shape.{Shape}
use Rattle.sb_safe_updates.specs.bank_Given.{Given}
use Rattle.sb_safe_updates.specs.bank_the_Operation.{Operation}
use Rattle.sb_safe_updates.specs.sb_specs_the_Members.{Members}
use Rattle.sb_safe_updates.specs.sb_specs_Reading.{role_state, holder, data_offset_of}
use Rattle.sb_safe_updates.specs.stripe_row_Rows.{reading_of, present}
use Rattle.sb_safe_updates.proofs.stripe_row_Losses.{holder-of}
use Rattle.sb_safe_updates.specs.array_members_Moving.{IsMoved}
use Rattle.sb_safe_updates.specs.array_members_Lacking.{DataStandsAmong}
use Rattle.sb_safe_updates.proofs.array_members_SyncedParts.{ArePut}
use Rattle.sb_safe_updates.proofs.array_members_HeldRows.{held-moved}

-- Where rows were put and the others of a region are as they were, it is so of the region.
module _ (given : Given) (shape : Shape) (put region : ℕ → Type 0) (old new : Members) (before after : List Operation) (moved : IsMoved given old new)
    (which : (row : ℕ) → put row ⊎ (put row → ⊥)) (within : (row : ℕ) → put row → region row) (part : ArePut given shape put put old new before after) where
  -- what a holder has of another row is as it was
  there : (row role slot : ℕ) → (put row → ⊥) → holder (role_state (reading_of new) role) ≡ Some slot
      → present given after slot (data_offset_of (reading_of new) slot + row) ≡ present given before slot (data_offset_of (reading_of old) slot + row)
  there row role slot out holds = part.others row out role slot holds ∙ ap (λ (n : ℕ). present given before slot (n + row)) (moved.offsets slot)

  -- the list in the rows that were put
  inner : (list : ℕ → Sector) → DataStandsAmong shape region old (present given before) list → DataStandsAmong shape put old (present given before) list
  inner list stands row has below = stands row (within row has) below

  pub put-wider : ArePut given shape region put old new before after
  put-wider = record {
    stands = λ list stands row has below role slot lt here held. elim (which row) [
      | inl at ↦ part.stands list (inner list stands) row at below role slot lt here held
      | inr out ↦ there row role slot out (holder-of (reading_of new) role row slot held)
          ∙ stands row has (subst (λ (n : ℕ). row < n) moved.size below) role slot lt here (held-moved moved role row slot held)
    ];
    rows = λ list stands row has lt whole is. elim (which row) [
      | inl at ↦ part.rows list (inner list stands) row at lt whole is
      | inr out ↦ elim is [
        | inl at ↦ absurd (out at)
        | inr here ↦ record {
          whole = whole;
          sectors = λ role slot small role_is held. there row role slot out (holder-of (reading_of new) role row slot held) ∙ here.sectors role slot small role_is (held-moved moved role row slot held);
          parity = λ role slot small role_is held. there row role slot out (holder-of (reading_of new) role row slot held) ∙ here.parity role slot small role_is (held-moved moved role row slot held);
        }
      ]
    ];
    rebuilt = λ list stands role slot row small is has lt full. elim (which row) [
      | inl at ↦ part.rebuilt list (inner list stands) role slot row small is at lt full
      | inr out ↦ there row role slot out (ap holder is) ∙ full
    ];
    others = λ row out. part.others row (λ at. out (within row at));
  }
