-- A refusal is right by the history, in an array that is in a reshape.
use Rattle.std.proofs.Common.{◌≡◌, inl, inr, ℕ, zero, suc, ◌+◌, ◌-◌, ◌≤◌, Bool, true, false, cond, List, refl, sym, ◌∙◌, ap, subst, arith}
use Rattle.history_invariant_laws.specs.raid_types_the_Refusal.{Refusal}
use Rattle.history_invariant_laws.specs.raid_types_the_Refusal_TheVariants.{TooManyMissing, PastEnd, NotResynced}
use Rattle.history_invariant_laws.specs.raid_types_the_Shape.{Shape}
use Rattle.history_invariant_laws.specs.raid_types_Search.{count_below}
use Rattle.history_invariant_laws.specs.raid_types_Shapes.{tolerance, tolerance_of}
use Rattle.reshape_progress_resync_laws.specs.bank_Given.{Given}
use Rattle.reshape_progress_resync_laws.specs.sb_specs_the_Members.{Members}
use Rattle.reshape_progress_resync_laws.specs.sb_specs_Reading.{shape_of, final_shape}
use Rattle.reshape_progress_resync_laws.proofs.sb_specs_ValidFields.{few-roles}
use Rattle.reshape_progress_resync_laws.specs.stripe_row_Rows.{reading_of, is_missing}
use Rattle.reshape_progress_resync_laws.specs.history_the_Entry.{Entry}
use Rattle.reshape_progress_resync_laws.specs.history_the_Event_TheVariants.{Refused}
use Rattle.reshape_progress_resync_laws.specs.history_Legal.{level_at, IsTooManyMissing, IsRefusedRight}
use Rattle.reshape_progress_resync_laws.specs.history_Losses.{is_gone_after}
use Rattle.reshape_progress_resync_laws.specs.history_World.{World}
use Rattle.reshape_progress_resync_laws.proofs.crash_reshape_laws_EndLaws.{fewer-pass}
use Rattle.reshape_progress_resync_laws.specs.array_members_Placed.{IsPlaced, IsInForce}
use Rattle.reshape_progress_resync_laws.specs.array_members_Lacking.{lacking, LacksTooMany, AreTooMany}
use Rattle.reshape_progress_resync_laws.proofs.array_members_Fit.{force-disks}
use Rattle.history_invariant_laws.specs.Reliable.{AreToldGone}
use Rattle.history_invariant_laws.proofs.Quiet.{IsQuiet}

-- a refusal is quiet
pub quiet-refusal : (refusal : Refusal) → IsQuiet (Refused refusal)
quiet-refusal refusal = record { adds = refl; gives = refl; ends = refl; still = λ x values. refl; level = λ n. refl; other = refl }

-- as many pass below more
count-longer : (f : ℕ → Bool) (n k : ℕ) → count_below n f ≤ count_below (n + k) f
unfolding count_below
count-longer f n zero = subst (λ (m : ℕ). count_below n f ≤ count_below m f) (same n) (omega arith)
  where
    same : (n : ℕ) → n ≡ n + 0
    same n = omega arith
count-longer f n (suc k) = subst (λ (m : ℕ). count_below n f ≤ count_below m f) (next n k) (let le = count-longer f n k in of (f (n + k)) le)
  where
    next : (n k : ℕ) → suc (n + k) ≡ n + suc k
    next n k = omega arith

    of : (b : Bool) → count_below n f ≤ count_below (n + k) f → count_below n f ≤ count_below (n + k) f + cond b 1 0
    of true le = omega (arith, le)
    of false le = omega (arith, le)

count-within : (f : ℕ → Bool) (n m : ℕ) → n ≤ m → count_below n f ≤ count_below m f
count-within f n m le = subst (λ (k : ℕ). count_below n f ≤ count_below k f) (whole n m le) (count-longer f n (m - n))
  where
    whole : (n m : ℕ) → n ≤ m → n + (m - n) ≡ m
    whole n m le = omega (arith, le)

-- what a refusal tells to be missing, and to be tolerated
abbrev pub missing-told : Refusal → ℕ
missing-told (TooManyMissing count most) = count
missing-told refusal = 0

abbrev pub tolerated-told : Refusal → ℕ
tolerated-told (TooManyMissing count most) = most
tolerated-told refusal = 0

module _ (world : World) (before : List Entry) (given : Given) (m : Members) (placed : IsPlaced given m) (gone : AreToldGone world before m) (level : tolerance_of (level_at world before) ≡ tolerance (shape_of m.newest)) where
  lacks-right : (shape : Shape) (count most : ℕ) → IsInForce m.newest shape → shape.level ≡ (shape_of m.newest).level → LacksTooMany shape m (TooManyMissing count most) → IsTooManyMissing world before count most
  lacks-right shape count most force same lacks =
      let is : count ≡ lacking shape m = ap missing-told lacks.told in
      let t : most ≡ tolerance shape = ap tolerated-told lacks.told in
      let above = lacks.above in
      let few = few-roles m.newest placed.fit.valid in
      let within = force-disks m.newest placed.fit shape force in
      let pass : count_below shape.disks (is_missing (reading_of m)) ≤ count_below shape.disks (is_gone_after world before) =
      fewer-pass shape.disks (is_missing (reading_of m)) (is_gone_after world before) (λ j lt miss. gone j (omega (arith, lt, within)) miss) in
      let all = count-within (is_gone_after world before) shape.disks 32 (omega (arith, few, within)) in
      record {
        above = omega (arith, above, is, t);
        gone = omega (arith, is, pass, all);
        tolerated = t ∙ ap tolerance_of same ∙ sym level;
      }

  -- so it is of each shape in force
  pub lacking-right : (shape : Shape) (refusal : Refusal) → IsInForce m.newest shape → LacksTooMany shape m refusal → IsRefusedRight world before refusal
  lacking-right shape refusal force lacks =
      subst (λ (r : Refusal). IsRefusedRight world before r) (sym lacks.told) (lacks-right shape (lacking shape m) (tolerance shape) force (same force) (record { above = lacks.above; told = refl }))
    where
      same : IsInForce m.newest shape → shape.level ≡ (shape_of m.newest).level
      same (inl is) = ap (λ (s : Shape). s.level) is
      same (inr is) = ap (λ (s : Shape). s.level) is ∙ placed.fit.level

  pub refused-right : (refusal : Refusal) → AreTooMany m refusal → IsRefusedRight world before refusal
  refused-right (TooManyMissing count most) (inl old) = lacks-right (shape_of m.newest) count most (inl refl) refl old
  refused-right (TooManyMissing count most) (inr new) = lacks-right (final_shape m.newest) count most (inr refl) placed.fit.level new.1
  refused-right (PastEnd visible) (inl old) = absurd (let e = old.told in cc)
  refused-right (PastEnd visible) (inr new) = absurd (let e = new.1.told in cc)
  refused-right (NotResynced role) (inl old) = absurd (let e = old.told in cc)
  refused-right (NotResynced role) (inr new) = absurd (let e = new.1.told in cc)
  refused-right refusal why = tt
