-- The first refusal of a call, and what it tells.
use Rattle.std.proofs.Common.{◌≡◌, inl, inr, ℕ, ◌*◌, ◌^◌, ◌<◌, ◌≤◌, Bool, true, false, nat_lt, if◌then◌else◌, Option, Some, None, sym, ◌∙◌, ap, arith}
use Rattle.std.specs.Prelude.{MatchOption}
use Rattle.std.proofs.lemmas.Bool.Decides.{nat_tests}
use Rattle.std.proofs.lemmas.Nat.{mul-le}
use Rattle.stripe_io.specs.raid_types_the_Shape.{Shape}
use Rattle.stripe_io.specs.raid_types_Shapes.{data_disks, is_valid_shape}
use Rattle.stripe_io.proofs.raid_layout_Limits.{limited}
use Rattle.stripe_io.specs.raid_types_the_Refusal.{Refusal}
use Rattle.stripe_io.specs.raid_types_the_Refusal_TheVariants.{PastEnd}
use Rattle.stripe_io.specs.sb_specs_the_Members.{Members}
use Rattle.sb_add_spare.specs.array_members_Lacking.{IsUnread, IsUnwritten}
use Rattle.sb_add_spare.specs.sb_safe_updates_First.{read_refusal, write_refusal, call_refusal}
use Rattle.sb_add_spare.proofs.sb_safe_updates_RefusingLaws.{read-none, write-none, read-cause, write-cause}
use Rattle.array_call_laws.specs.array_call_specs_Calls.{IsRefusalOf}
use Rattle.array_call_laws.proofs.array_call_specs_ReplyLaws.{unread-of, unwritten-of, refused-for}

-- the list is short
pub short-list : (shape : Shape) (size : ℕ) → is_valid_shape shape ≡ true → size ≤ 2 ^ 48 → data_disks shape * size ≤ 2 ^ 52
short-list shape size valid short =
    let most = (limited shape valid).most in
    let few : data_disks shape ≤ 16 = omega (arith, most) in
    let all = mul-le (data_disks shape) size 16 (2 ^ 48) few short in
    omega (arith, all)

pub call-past : (visible to : ℕ) (why : Option Refusal) → visible < to → call_refusal visible to why ≡ Some (PastEnd visible)
call-past visible to why past = ap (λ (b : Bool). if b then Some (PastEnd visible) else why) (above visible to past)
  where
    above : (a b : ℕ) → a < b → nat_lt a b ≡ true
    above a b h = grind (arith, nat_tests)

pub call-within : (visible to : ℕ) (why : Option Refusal) → to ≤ visible → call_refusal visible to why ≡ why
call-within visible to why within = ap (λ (b : Bool). if b then Some (PastEnd visible) else why) (below visible to within)
  where
    below : (a b : ℕ) → b ≤ a → nat_lt a b ≡ false
    below a b h = grind (arith, nat_tests)

pub within-is : (visible to : ℕ) (found why : Option Refusal) → to ≤ visible → found ≡ why → found ≡ call_refusal visible to why
within-is visible to found why within is = is ∙ sym (call-within visible to why within)

pub past-is : (visible size to : ℕ) (why : Option Refusal) → visible ≡ size → visible < to → Some (PastEnd visible) ≡ call_refusal size to why
past-is visible size to why same past = ap (λ (n : ℕ). Some (PastEnd n)) same ∙ sym (call-past size to why (let e = same in omega (arith, e, past)))

-- nothing is told against a call that nothing refuses
read-never : (shape : Shape) (mended first count : ℕ) (m : Members) → read_refusal shape mended first count m ≡ None → (refusal : Refusal) → IsUnread shape mended first count m refusal → ⊥
read-never shape mended first count m none refusal (inl many) = absurd (let few = (read-none shape mended first count m none).0 in let above = many.above in omega (arith, few, above))
read-never shape mended first count m none refusal (inr found) = absurd (let e = sym ((read-none shape mended first count m none).1 found.0 found.3) ∙ found.2 in cc)

write-never : (shape : Shape) (synced : Bool) (m : Members) → write_refusal shape synced m ≡ None → (refusal : Refusal) → IsUnwritten shape synced m refusal → ⊥
write-never shape synced m none refusal (inl many) = absurd (let few = (write-none shape synced m none).0 in let above = many.above in omega (arith, few, above))
write-never shape synced m none refusal (inr found) = absurd (let e = sym ((write-none shape synced m none).1 found.2 found.0 found.4.0 found.3) ∙ found.4.1 in cc)

pub read-judged : (shape : Shape) (visible to mended first count : ℕ) (m : Members) (found : Option Refusal) → to ≤ visible → found ≡ read_refusal shape mended first count m → IsRefusalOf visible to (IsUnread shape mended first count) m found
read-judged shape visible to mended first count m None within is = (within, read-never shape mended first count m (sym is))
read-judged shape visible to mended first count m (Some refusal) within is =
    let why = read-cause shape mended first count m refusal (sym is) in
    refused-for visible to (IsUnread shape mended first count) m m refusal (unread-of shape mended first count m refusal why) within why

pub write-judged : (shape : Shape) (visible to : ℕ) (synced : Bool) (m : Members) (found : Option Refusal) → to ≤ visible → found ≡ write_refusal shape synced m → IsRefusalOf visible to (IsUnwritten shape synced) m found
write-judged shape visible to synced m None within is = (within, write-never shape synced m (sym is))
write-judged shape visible to synced m (Some refusal) within is =
    let why = write-cause shape synced m refusal (sym is) in
    refused-for visible to (IsUnwritten shape synced) m m refusal (unwritten-of shape synced m refusal why) within why

pub write-told : (shape : Shape) (synced : Bool) (m : Members) (found : Option Refusal) → found ≡ write_refusal shape synced m → MatchOption found ((refusal : Refusal) → IsUnwritten shape synced m refusal → ⊥) (IsUnwritten shape synced m)
write-told shape synced m None is = write-never shape synced m (sym is)
write-told shape synced m (Some refusal) is = write-cause shape synced m refusal (sym is)
