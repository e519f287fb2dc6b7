-- What a step of a rebuild asks for and leaves, by its kind and its role.
use Rattle.std.proofs.Common.{◌≡◌, ℕ, ◌<◌, ◌≤◌, Result, Ok, Err, length, sym, ◌∙◌, ap, subst, arith}
use Rattle.std.specs.Prelude.{OnOk}
use Rattle.array_fixed_io.specs.raid_types_the_Fault.{Fault}
use Rattle.array_fixed_io.specs.sb_specs_the_Members.{Members}
use Rattle.array_fixed_io.specs.sb_specs_Reading.{shape_of}
use Rattle.array_fixed_io.specs.history_the_StepKind.{StepKind}
use Rattle.array_fixed_io.specs.history_the_StepKind_TheVariants.{RebuildTaken, RebuildStripe, RebuildEnded}
use Rattle.array_fixed_io.specs.array_members_the_Work.{Work}
use Rattle.array_fixed_io.specs.array_call_specs_Calls.{IsWholeOrLost, by_answer}
use Rattle.array_fixed_io.specs.array_type_Rebuilding.{rebuilt_role, rebuild_kind, after_rebuild}

-- ---- what is asked

pub disks-as : (found members : Members) (disks : ℕ) → found ≡ members → disks ≡ (shape_of members.newest).disks → disks ≡ (shape_of found.newest).disks
disks-as found members disks same is = is ∙ ap (λ (m : Members). (shape_of m.newest).disks) (sym same)

pub roles-as : (found members : Members) (disks : ℕ) → found ≡ members → length members.roles ≡ disks → disks ≤ length found.roles
roles-as found members disks same is = subst (λ (m : Members). disks ≤ length m.roles) (sym same) (at (length members.roles) is)
  where
    at : (n : ℕ) → n ≡ disks → disks ≤ n
    at n is = omega arith

pub role-below : (role disks few : ℕ) → role < few → disks ≡ few → disks ≤ 16 → role < 16
role-below role disks few below is least = omega arith

pub less-as : {a b x y : ℕ} → x < y → x ≡ a → y ≡ b → a < b
less-as less left right = omega arith

pub most-as : {a b x y : ℕ} → y ≤ x → x ≡ a → y ≡ b → b ≤ a
most-as most left right = omega arith

-- ---- the kinds are apart

pub stripe-no-end : ◌≡◌ {A = StepKind} RebuildStripe RebuildEnded → ⊥
stripe-no-end same = cc

pub stripe-not-taken : ◌≡◌ {A = StepKind} RebuildStripe RebuildTaken → ⊥
stripe-not-taken same = cc

pub end-not-taken : ◌≡◌ {A = StepKind} RebuildEnded RebuildTaken → ⊥
end-not-taken same = cc

pub taken-no-end : ◌≡◌ {A = StepKind} RebuildTaken RebuildEnded → ⊥
taken-no-end same = cc

-- ---- what is left

pub work-as : {T : Type 0} (work work' : Work) (members : Members) (kind : StepKind) (role : ℕ) (result : Result T Fault) → rebuild_kind work members ≡ kind → rebuilt_role members ≡ role
    → work' ≡ by_answer result (after_rebuild kind role work) work → work' ≡ by_answer result (after_rebuild (rebuild_kind work members) (rebuilt_role members) work) work
work-as {T} work work' members kind role result kind_is role_is was =
    was ∙ ap (λ (k : StepKind). by_answer result (after_rebuild k role work) work) (sym kind_is) ∙ ap (λ (r : ℕ). by_answer result (after_rebuild (rebuild_kind work members) r work) work) (sym role_is)

pub work-same : {T : Type 0} (work work' : Work) (result : Result T Fault) → work' ≡ work → work' ≡ by_answer result work work
work-same work work' (Ok x) same = same
work-same work work' (Err fault) same = same

pub whole-at : {T E : Type 0} (old new : Members) (kind : StepKind) (role : ℕ) (result : Result T E) → rebuilt_role old ≡ role → OnOk result (IsWholeOrLost old new role)
    → OnOk result (kind ≡ RebuildEnded → IsWholeOrLost old new (rebuilt_role old))
whole-at old new kind role (Ok x) role_is was = λ end. subst (λ (r : ℕ). IsWholeOrLost old new r) (sym role_is) was
whole-at old new kind role (Err fault) role_is was = tt
