-- Which step is the next one.
use Rattle.std.proofs.Common.{◌≡◌, inl, inr, ℕ, zero, suc, ◌+◌, ◌*◌, ◌<◌, ◌==◌, min, List, Bool, true, false, cond, Option, Some, None, Result, refl, sym, ◌∙◌, ap, subst, arith}
use Rattle.std.proofs.Math.Nat.{min-le_left, min-le_right}
use Rattle.std.specs.Prelude.{IsSome, IsTrue, MatchOption, nat_lt}
use Rattle.std.specs.Option.{option_map_or}
use Rattle.array_fixed_io.specs.raid_types_the_Fault.{Fault}
use Rattle.array_fixed_io.specs.raid_types_the_Refusal.{Refusal}
use Rattle.array_fixed_io.specs.raid_types_the_Role.{Role}
use Rattle.array_fixed_io.specs.raid_types_the_Role_TheVariants.{Whole, Recovering, Missing}
use Rattle.array_fixed_io.specs.bank_Given.{Given}
use Rattle.array_fixed_io.specs.bank_the_Operation.{Operation}
use Rattle.array_fixed_io.specs.sb_specs_the_Members.{Members}
use Rattle.array_fixed_io.specs.sb_specs_Reading.{shape_of, role_state}
use Rattle.array_fixed_io.specs.sb_specs_Reads.{has_spare}
use Rattle.array_fixed_io.specs.stripe_row_Rows.{reading_of}
use Rattle.array_fixed_io.specs.history_the_StepKind.{StepKind}
use Rattle.array_fixed_io.specs.history_the_StepKind_TheVariants.{RebuildTaken, RebuildStripe, RebuildEnded, ResyncStripe, ResyncEnded}
use Rattle.array_fixed_io.specs.array_members_the_Work.{Work}
use Rattle.array_fixed_io.specs.array_members_Placed.{is_unassigned}
use Rattle.array_fixed_io.specs.array_members_Status.{stripes_of, rebuilt_of, vacant_count, spare_count, resync_left, role_left, recovery_left, left_of}
use Rattle.array_fixed_io.specs.array_members_Lacking.{AreTooMany}
use Rattle.array_fixed_io.specs.array_call_specs_Calls.{WasSpare, IsCausedBy, IsUnmendable}
use Rattle.array_fixed_io.specs.array_members_Rebuilding.{MayHold}
use Rattle.array_fixed_io.specs.array_specs_Parts.{RunningParts}
use Rattle.array_fixed_io.specs.array_fixed_laws_Steps.{IsStepped}
use Rattle.array_fixed_sync.specs.Resyncing.{is_at_end, IsUnsynced}
use Rattle.array_fixed_sync.specs.Resyncing as resync
use Rattle.array_fixed_io.specs.array_type_Rebuilding.{recovers, first_recovering, first_unassigned, first_spare, IsRebuildNext, rebuild_kind, IsHeldOrNext}
use Rattle.array_fixed_sync.proofs.RebuildLaws.{losses-wider}
use Rattle.array_fixed_io.proofs.array_type_Lowest.{lowest-found, lowest-fails, none-counted}
use Rattle.array_fixed_sync.specs.Stepping.{IsUndone, next_kind, IsEnd, IsHeldOrDue}

-- ---- steps that are left

no-steps : (stripes rebuilt : ℕ) (state : Role) → recovers state ≡ false → role_left stripes rebuilt state ≡ 0
no-steps stripes rebuilt (Whole slot) is = refl
no-steps stripes rebuilt (Recovering slot) is = absurd (cc)
no-steps stripes rebuilt Missing is = refl

no-recovery : (work : Work) (members : Members) (n : ℕ) → ((role : ℕ) → role < n → recovers (role_state (reading_of members) role) ≡ false) → recovery_left work members n ≡ 0
unfolding recovery_left
no-recovery work members zero none = refl
no-recovery work members (suc n) none =
    let before = no-recovery work members n (λ role lt. none role (omega (arith, lt))) in
    let here = no-steps (stripes_of members) (rebuilt_of work n) (role_state (reading_of members) n) (none n (omega arith)) in
    omega (arith, before, here)

pub none-times : (m n : ℕ) → m ≡ 0 → m * n ≡ 0
none-times m n is = let none : 0 * n ≡ 0 = omega arith in ap (λ (k : ℕ). k * n) is ∙ none

-- With no resync pending and a step left, a rebuild is next.
pub next-rebuild : (work : Work) (members : Members) → work.resync ≡ None → 0 < left_of work members → IsRebuildNext members
next-rebuild work members synced left = by (first_recovering members) refl (first_unassigned members) refl (first_spare members) refl
  where
    resyncs : resync_left work.resync members ≡ 0
    resyncs = ap (λ (o : Option ℕ). resync_left o members) synced

    -- where nothing is recovered, and there is no role to give or no spare
    idle : first_recovering members ≡ None → min (vacant_count members) (spare_count members) ≡ 0 → ⊥
    idle none no_pair =
        let roles = no-recovery work members (shape_of members.newest).disks (lowest-fails (shape_of members.newest).disks (λ role. recovers (role_state (reading_of members) role)) none) in
        let pairs = none-times (min (vacant_count members) (spare_count members)) (stripes_of members + 2) no_pair in
        omega (arith, left, resyncs, roles, pairs)

    by : (a : Option ℕ) → first_recovering members ≡ a → (b : Option ℕ) → first_unassigned members ≡ b → (c : Option ℕ) → first_spare members ≡ c → IsRebuildNext members
    by (Some role) is b there c spare = inl (subst IsSome (sym is) refl)
    by None is (Some role) there (Some slot) spare = inr (subst IsSome (sym there) refl, subst IsSome (sym spare) refl)
    by None is None there c spare = absurd (
        let none = none-counted (shape_of members.newest).disks (is_unassigned (reading_of members)) there in
        let least = min-le_left (vacant_count members) (spare_count members) in
        idle is (omega (arith, none, least)))
    by None is (Some role) there None spare = absurd (
        let none = none-counted 32 (has_spare members.spares) spare in
        let least = min-le_right (vacant_count members) (spare_count members) in
        idle is (omega (arith, none, least)))

-- ---- its kind

pub next-same : (work : Work) (members : Members) → work.resync ≡ None → next_kind work members ≡ rebuild_kind work members
next-same work members synced = ap (λ (o : Option ℕ). option_map_or (λ mended. resync.next_kind work.resync members) o (rebuild_kind work members)) synced

-- a resync's step is none of a rebuild
abbrev pub is_resync : StepKind → Bool
is_resync ResyncStripe = true
is_resync ResyncEnded = true
is_resync kind = false

pub of-resync : (work : Work) (members : Members) → IsSome work.resync → is_resync (next_kind work members) ≡ true
of-resync work members = by work.resync
  where
    at : (b : Bool) → is_resync (cond b ResyncEnded ResyncStripe) ≡ true
    at true = refl
    at false = refl

    by : (o : Option ℕ) → IsSome o → is_resync (option_map_or (λ mended. resync.next_kind o members) o (rebuild_kind work members)) ≡ true
    by None some = absurd (cc)
    by (Some mended) some = at (mended == stripes_of members)

pub not-resynced : (Fact : Type 0) (kind other : StepKind) → is_resync kind ≡ true → is_resync other ≡ false → kind ≡ other → Fact
not-resynced Fact kind other is apart same = absurd (let e = sym is ∙ ap is_resync same ∙ apart in cc)

-- ---- who had a role

pub held-due : (work : Work) (members : Members) → work.resync ≡ None → (role slot : ℕ) → IsHeldOrNext work members role slot → IsHeldOrDue work members role slot
held-due work members synced role slot (inl held) = inl held
held-due work members synced role slot (inr next) = inr (next-same work members synced ∙ next.0, next.1)

pub due-may : (work : Work) (members : Members) (role slot : ℕ) → IsHeldOrDue work members role slot → MayHold members role slot
due-may work members role slot (inl held) = inl held
due-may work members role slot (inr next) = inr (lowest-found 32 (has_spare members.spares) slot next.1.1).1

-- ---- the last step of a resync, or of a rebuild

pub resync-end : (Fact : Type 0) (work : Work) (members : Members) → IsSome work.resync → (IsTrue (is_at_end work.resync members) → Fact) → IsEnd (next_kind work members) → Fact
resync-end Fact work members = by work.resync
  where
    at : (b : Bool) → (IsTrue b → Fact) → IsEnd (cond b ResyncEnded ResyncStripe) → Fact
    at true fact end = fact refl
    at false fact end = absurd end

    by : (o : Option ℕ) → IsSome o → (IsTrue (is_at_end o members) → Fact) → IsEnd (option_map_or (λ mended. resync.next_kind o members) o (rebuild_kind work members)) → Fact
    by None some fact end = absurd (cc)
    by (Some mended) some fact end = at (mended == stripes_of members) fact end

pub rebuild-end : (Fact : Type 0) (work : Work) (members : Members) → work.resync ≡ None → (rebuild_kind work members ≡ RebuildEnded → Fact) → IsEnd (next_kind work members) → Fact
rebuild-end Fact work members synced fact end = at (first_recovering members) fact (by work.resync synced end)
  where
    by : (o : Option ℕ) → o ≡ None → IsEnd (option_map_or (λ mended. resync.next_kind o members) o (rebuild_kind work members)) → IsEnd (rebuild_kind work members)
    by None is end = end
    by (Some mended) is end = absurd (cc)

    which : (b : Bool) → (cond b RebuildStripe RebuildEnded ≡ RebuildEnded → Fact) → IsEnd (cond b RebuildStripe RebuildEnded) → Fact
    which true fact end = absurd end
    which false fact end = fact refl

    at : (o : Option ℕ) → (option_map_or (λ role. cond (nat_lt (rebuilt_of work role) (stripes_of members)) RebuildStripe RebuildEnded) o RebuildTaken ≡ RebuildEnded → Fact)
        → IsEnd (option_map_or (λ role. cond (nat_lt (rebuilt_of work role) (stripes_of members)) RebuildStripe RebuildEnded) o RebuildTaken) → Fact
    at None fact end = absurd end
    at (Some role) fact end = which (nat_lt (rebuilt_of work role) (stripes_of members)) fact end

-- ---- why a step isn't done

pub undone-caused : {T : Type 0} (visible : ℕ) (work : Work) (old new : Members) (result : Result T Fault) → work.resync ≡ None → IsCausedBy visible 0 AreTooMany old new result → IsCausedBy visible 0 (IsUndone work old) old new result
undone-caused visible work old new result synced was =
    subst (λ (o : Option ℕ). IsCausedBy visible 0 (λ m refusal. MatchOption o (AreTooMany m refusal) (λ mended. IsUnsynced (is_at_end work.resync old) m refusal)) old new result) (sym synced) was

-- of either
pub undone-unwritten : (work : Work) (old members : Members) (refusal : Refusal) → IsUndone work old members refusal → IsUnmendable members refusal
undone-unwritten work old members refusal why = by work.resync why
  where
    mending : (b : Bool) → IsUnsynced b members refusal → IsUnmendable members refusal
    mending true many = inl many
    mending false unwritten = unwritten

    by : (o : Option ℕ) → MatchOption o (AreTooMany members refusal) (λ mended. IsUnsynced (is_at_end o old) members refusal) → IsUnmendable members refusal
    by None why = inl why
    by (Some mended) why = mending (is_at_end (Some mended) old) why

-- ---- what a step leaves

-- by a wider word of who had the roles
pub stepped-wider : {B : Type 0} (tells : Type 0) (given : Given) (tape tape' : List Operation) (Had Has : ℕ → ℕ → Type 0) (before after : ℕ → ℕ) (old new : RunningParts B) → ((role slot : ℕ) → Has role slot → Had role slot)
    → IsStepped tells given tape tape' Has before after old new → IsStepped tells given tape tape' Had before after old new
stepped-wider tells given tape tape' Had Has before after old new had was = record {
  grows = was.grows;
  ended = was.ended;
  failed = was.failed;
  losses = losses-wider Had Has (WasSpare old.parts.members) before after had old.parts.entries new.parts.entries was.losses;
  never_falls = was.never_falls;
  same = was.same;
}
