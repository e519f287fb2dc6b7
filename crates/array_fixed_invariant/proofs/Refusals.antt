-- A refusal is right by the history, in an array without an active reshape.
use Rattle.std.proofs.Common.{◌≡◌, inl, inr, ℕ, ◌<◌, ◌≤◌, true, false, Option, List, [], ◌++◌, length, refl, sym, ◌∙◌, ap, subst, arith, append-nil}
use Rattle.std.specs.Prelude.{IsSome, is_some, ⊤}
use Rattle.std.specs.List.{list_any}
use Rattle.array_reshaping_invariant.specs.raid_types_the_Refusal.{Refusal}
use Rattle.array_call_laws.specs.raid_types_the_Refusal_TheVariants.{TooManyMissing, PastEnd, NotResynced}
use Rattle.array_reshaping_invariant.specs.raid_types_the_Who.{Who}
use Rattle.array_reshaping_invariant.specs.raid_types_the_Shape.{Shape}
use Rattle.array_reshaping_invariant.specs.raid_types_Search.{count_below}
use Rattle.array_reshaping_invariant.specs.raid_types_Shapes.{tolerance, tolerance_of}
use Rattle.array_reshaping_invariant.specs.bank_the_Operation.{Operation}
use Rattle.array_reshaping_invariant.specs.bank_Given.{Given}
use Rattle.array_reshaping_invariant.specs.sb_specs_the_Members.{Members}
use Rattle.array_reshaping_invariant.specs.sb_specs_Reading.{Scope, shape_of, final_shape, role_count}
use Rattle.array_reshaping_invariant.proofs.sb_specs_ValidFields.{few-roles}
use Rattle.array_reshaping_invariant.specs.stripe_row_Rows.{reading_of, is_missing}
use Rattle.array_reshaping_invariant.specs.history_the_Entry.{Entry}
use Rattle.array_reshaping_invariant.specs.history_the_Event.{Event}
use Rattle.array_reshaping_invariant.specs.history_Legal.{level_at, IsTooManyMissing, IsRefusedRight}
use Rattle.array_reshaping_invariant.specs.history_Losses.{is_gone_after, is_resync_end, is_unsynced}
use Rattle.array_reshaping_invariant.specs.history_Plain.{entries_of}
use Rattle.array_reshaping_invariant.specs.history_World.{World}
use Rattle.array_reshaping_invariant.proofs.history_GoneCounts.{few_missing}
use Rattle.array_reshaping_invariant.specs.array_members_Placed.{IsPlaced, IsInForce}
use Rattle.array_reshaping_invariant.specs.array_members_Lacking.{lacking, LacksTooMany, AreTooMany}
use Rattle.array_reshaping_invariant.specs.array_members_Moving.{Grows}
use Rattle.array_reshaping_invariant.proofs.array_members_Fit.{force-disks}
use Rattle.array_reshaping_invariant.specs.history_append_Losing.{losses_of}
use Rattle.array_reshaping_invariant.proofs.history_append_CallLaws.{losses-are, ends-losses}
use Rattle.array_reshaping_invariant.specs.history_invariant_Safe.{world_in}
use Rattle.array_reshaping_invariant.specs.history_invariant_laws_Reliable.{AreToldGone}
use Rattle.array_reshaping_invariant.proofs.Refusals.{missing-told, tolerated-told}
use Rattle.array_reshaping_invariant.proofs.array_call_specs_LedgerLaws.{unsynced-more}
use Rattle.array_fixed_invariant.proofs.Leaving.{unsynced-later}

-- Why a call is refused, by the members that it leaves: too many roles are missing, or a role is while a resync is pending; other refusals tell nothing that
-- was entered.
abbrev pub IsRefusedStill : Option ℕ → Members → Refusal → Type 0
IsRefusedStill resync m (PastEnd visible) = ⊥
IsRefusedStill resync m (TooManyMissing count most) = AreTooMany m (TooManyMissing count most)
IsRefusedStill resync m (NotResynced role) = IsSome resync × (role < role_count m.newest) × (is_missing (reading_of m) role ≡ true)
IsRefusedStill resync m refusal = ⊤

-- too many are missing
pub too-many-refused : (resync : Option ℕ) (m : Members) (refusal : Refusal) → AreTooMany m refusal → IsRefusedStill resync m refusal
too-many-refused resync m refusal (inl many) = subst (IsRefusedStill resync m) (sym many.told) (inl (record { above = many.above; told = refl }))
too-many-refused resync m refusal (inr many) = subst (IsRefusedStill resync m) (sym many.1.told) (inr (many.0, record { above = many.1.above; told = refl }))

module _ (world : World) (before : List Entry) (given : Given) (m : Members) (placed : IsPlaced given m) (resync : Option ℕ) (gone : AreToldGone world before m)
    (level : tolerance_of (level_at world before) ≡ tolerance (shape_of m.newest)) (pending : is_unsynced world before ≡ is_some resync) where
  lacks-right : (shape : Shape) (count most : ℕ) → IsInForce m.newest shape → shape.level ≡ (shape_of m.newest).level → LacksTooMany shape m (TooManyMissing count most) → IsTooManyMissing world before count most
  lacks-right shape count most force same lacks =
      let is : count ≡ lacking shape m = ap missing-told lacks.told in
      let t : most ≡ tolerance shape = ap tolerated-told lacks.told in
      let above = lacks.above in
      let few = few-roles m.newest placed.fit.valid in
      let within = force-disks m.newest placed.fit shape force in
      let pass : count_below shape.disks (is_missing (reading_of m)) ≤ count_below 32 (is_gone_after world before) =
      few_missing (is_gone_after world before) shape.disks (is_missing (reading_of m)) (omega (arith, few, within)) (λ j lt miss. gone j (omega (arith, lt, within)) miss) in
      record {
        above = omega (arith, above, is, t);
        gone = omega (arith, is, pass);
        tolerated = t ∙ ap tolerance_of same ∙ sym level;
      }

  pub refused-right : (refusal : Refusal) → IsRefusedStill resync m refusal → IsRefusedRight world before refusal
  refused-right (TooManyMissing count most) (inl old) = lacks-right (shape_of m.newest) count most (inl refl) refl old
  refused-right (TooManyMissing count most) (inr new) = lacks-right (final_shape m.newest) count most (inr refl) placed.fit.level new.1
  refused-right (PastEnd visible) why = absurd why
  refused-right (NotResynced role) why = (gone role why.1 why.2, pending ∙ why.0)
  refused-right refusal why = tt

-- losses leave a resync pending, whatever is done with them
pub unsynced-behind : (tells : Type 0) (given : Given) (tape tape' : List Operation) (scope : Scope) (first : ℕ) (entries : List Entry) (who : Who) (end roles spares : ℕ) → Grows tells tape tape' → (tells → first ≤ length tape)
    → tells → is_unsynced (world_in given tape' scope first) (entries ++ entries_of who end (losses_of roles spares)) ≡ is_unsynced (world_in given tape scope first) entries
unsynced-behind tells given tape tape' scope first entries who end roles spares grows begun t =
    unsynced-later given scope first (entries ++ entries_of who end (losses_of roles spares)) grows begun t
    ∙ unsynced-more (world_in given tape scope first) entries (entries_of who end (losses_of roles spares))
    (subst (λ (l : List Event). list_any (λ e. is_resync_end e.event) (entries_of who end l) ≡ false) (append-nil (losses_of roles spares)) (ends-losses who end (losses_of roles spares) [] (losses-are roles spares)))
