-- The members with a role given to a slot: their roles, their slots and where these stand.
use Rattle.std.proofs.Common.{◌≡◌, ◌≢◌, ◌⊎◌, inl, inr, ⊎_elim, ℕ, ◌<◌, ◌≤◌, ◌==◌, ◌||◌, ◌&&◌, Bool, true, false, not, cond, nat_lt, length, Option, Some, None, option_map, refl, sym, ◌∙◌, ap, subst, arith}
use Rattle.std.specs.List.{list_any}
use Rattle.std.specs.Option.{option_map_or}
use Rattle.std.proofs.lemmas.Bool.{cases_eq, cases_lt}
use Rattle.std.proofs.lemmas.Bool.Decides.{nat_tests}
use Rattle.std.proofs.lemmas.List.{length-set, get_or-set_same, get_or-set_other, get_or_past}
use Rattle.crash_role_laws.specs.raid_types_Shapes.{has_slot}
use Rattle.crash_role_laws.specs.raid_types_the_Role.{Role}
use Rattle.crash_role_laws.specs.raid_types_the_Role_TheVariants.{Whole, Recovering, Missing}
use Rattle.crash_role_laws.specs.sb_codec_the_Sb.{Sb}
use Rattle.crash_role_laws.specs.sb_codec_Writable.{IsWritable}
use Rattle.crash_role_laws.specs.bank_Given.{Given}
use Rattle.crash_role_laws.specs.sb_specs_the_Members.{Members}
use Rattle.crash_role_laws.specs.sb_specs_Reading.{is_reshaping, role_state, rows_held, holder, data_offset_of}
use Rattle.crash_role_laws.specs.sb_specs_Reads.{has_spare}
use Rattle.crash_role_laws.specs.sb_specs_Update.{own_in, with_recovery, is_held_by, is_live}
use Rattle.crash_role_laws.specs.sb_specs_Writing.{IsMember}
use Rattle.crash_role_laws.proofs.sb_read_laws_SaidSlots.{has-slots_below}
use Rattle.crash_role_laws.specs.stripe_row_Rows.{reading_of, IsHolder}
use Rattle.array_members.specs.Placed.{IsPlaced}
use Rattle.crash_role_laws.specs.crash_safety_laws_Steady.{AreUnlost}
use Rattle.array_members.proofs.HeldRows.{recovered_of}
use Rattle.crash_role_laws.proofs.crash_safety_laws_Without.{any-holds, any-held}
use Rattle.array_members.proofs.Gives.{state_given, with_given, holder-given, IsGivable}

-- the offset from which a slot recovers; 0 where it is whole
abbrev pub offset_given : Option ℕ → ℕ
offset_given (Some offset) = offset
offset_given None = 0

pub recovery-is : (recovery : Option ℕ) (sb : Sb) → (with_recovery recovery sb).recovery_offset ≡ offset_given recovery
recovery-is (Some offset) sb = refl
recovery-is None sb = refl

start-is : (recovery : Option ℕ) (sb : Sb) → (with_recovery recovery sb).data_offset ≡ sb.data_offset
start-is (Some offset) sb = refl
start-is None sb = refl

writable-given : (recovery : Option ℕ) (sb : Sb) → IsWritable sb → IsWritable (with_recovery recovery sb)
writable-given (Some offset) sb w = record { magic = w.magic; major = w.major; super_offset = w.super_offset; max_dev = w.max_dev }
writable-given None sb w = record { magic = w.magic; major = w.major; super_offset = w.super_offset; max_dev = w.max_dev }

-- A slot that gets a role: its rows lie behind the superblock, which can be written again, it holds no other role, and no other slot holds
-- that one.
pub record IsReceiver (given : Given) (m : Members) (role slot : ℕ) : Type 0 where
  pub room : IsHolder given (reading_of m) slot
  pub behind : 10 ≤ data_offset_of (reading_of m) slot
  pub member : IsMember given (own_in m.own slot) slot
  pub live : is_live m.roles m.spares slot ≡ true
  pub only : (r : ℕ) → holder (role_state (reading_of m) r) ≡ Some slot → r ≡ role
  pub others : (s : ℕ) → holder (role_state (reading_of m) role) ≡ Some s → s ≡ slot
  pub unlost : has_slot m.lost slot ≡ false
  pub below : role < length m.roles

module _ (given : Given) (m : Members) (placed : IsPlaced given m) (recovery : Option ℕ) (role slot : ℕ) (to : IsReceiver given m role slot) where
  abbrev pub W : Members
  W = with_given recovery role slot m

  -- it may be given whichever slots are lost
  pub givable : (lost : ℕ) → IsGivable m.roles lost role slot
  givable lost = record { only = to.only; others = λ s apart is. absurd (apart (to.others s is)) }

  -- ---- the roles

  pub state-here : role_state (reading_of W) role ≡ state_given recovery slot
  state-here = get_or-set_same m.roles role (state_given recovery slot) Missing to.below

  pub state-other : (r : ℕ) → r ≢ role → role_state (reading_of W) r ≡ role_state (reading_of m) r
  state-other r apart = get_or-set_other m.roles role r (state_given recovery slot) Missing apart

  -- who holds a role then
  pub holder-then : (r s : ℕ) → holder (role_state (reading_of W) r) ≡ Some s → ((r ≡ role) × (s ≡ slot)) ⊎ ((r ≢ role) × (s ≢ slot) × (holder (role_state (reading_of m) r) ≡ Some s))
  holder-then r s is = elim (cases_eq r role) [
    | inl same ↦
        let here : ◌≡◌ {A = Option ℕ} (Some slot) (Some s) = sym (holder-given recovery slot) ∙ ap holder (sym state-here) ∙ ap (λ (k : ℕ). holder (role_state (reading_of W) k)) (sym same) ∙ is in
        inl (same, (let it : s ≡ slot = cc in it))
    | inr apart ↦
        let was : holder (role_state (reading_of m) r) ≡ Some s = ap holder (sym (state-other r apart)) ∙ is in
        inr (apart, (λ it. apart (to.only r (was ∙ ap (λ (n : ℕ). Some n) it))), was)
  ]

  -- ---- the superblocks

  short : slot < length m.own
  short = elim (cases_lt slot (length m.own)) [
    | inl below ↦ below
    | inr past ↦ absurd (let none : None ≡ Some to.member.sb = sym (get_or_past m.own slot None past) ∙ to.member.own in cc)
  ]

  pub own-here : own_in W.own slot ≡ Some (with_recovery recovery to.member.sb)
  own-here = get_or-set_same m.own slot (option_map (with_recovery recovery) (own_in m.own slot)) None short ∙ ap (option_map (with_recovery recovery)) to.member.own

  pub own-other : (s : ℕ) → s ≢ slot → own_in W.own s ≡ own_in m.own s
  own-other s apart = get_or-set_other m.own slot s (option_map (with_recovery recovery) (own_in m.own slot)) None apart

  pub offset-same : (s : ℕ) → data_offset_of (reading_of W) s ≡ data_offset_of (reading_of m) s
  offset-same s = elim (cases_eq s slot) [
    | inl same ↦ ap (λ (k : ℕ). data_offset_of (reading_of W) k) same
        ∙ ap (λ (o : Option Sb). option_map_or (λ sb. sb.data_offset) o 0) own-here ∙ start-is recovery to.member.sb
        ∙ sym (ap (λ (o : Option Sb). option_map_or (λ sb. sb.data_offset) o 0) to.member.own) ∙ ap (λ (k : ℕ). data_offset_of (reading_of m) k) (sym same)
    | inr apart ↦ ap (λ (o : Option Sb). option_map_or (λ sb. sb.data_offset) o 0) (own-other s apart)
  ]

  pub recovered-here : recovered_of (reading_of W) slot ≡ offset_given recovery
  recovered-here = ap (λ (o : Option Sb). option_map_or (λ sb. sb.recovery_offset) o 0) own-here ∙ recovery-is recovery to.member.sb

  pub recovered-other : (s : ℕ) → s ≢ slot → recovered_of (reading_of W) s ≡ recovered_of (reading_of m) s
  recovered-other s apart = ap (λ (o : Option Sb). option_map_or (λ sb. sb.recovery_offset) o 0) (own-other s apart)

  -- of another slot the same rows are held
  pub rows-other : (s : ℕ) (state : Role) → holder state ≡ Some s → s ≢ slot → rows_held (reading_of W) state ≡ rows_held (reading_of m) state
  rows-other s (Whole t) is apart = refl
  rows-other s (Recovering t) is apart =
      ap (λ (n : ℕ). cond (is_reshaping m.newest) 0 n) (recovered-other t (λ same. apart (let it : t ≡ s = cc in sym it ∙ same)))
  rows-other s Missing is apart = absurd (cc)

  -- ---- the spares

  pub spare-then : (s : ℕ) → has_spare W.spares s ≡ (nat_lt s 32 && (has_spare m.spares s && not (slot == s)))
  spare-then s = has-slots_below (λ s. has_spare m.spares s && not (slot == s)) s 32

  pub spare-before : (s : ℕ) → has_spare W.spares s ≡ true → (has_spare m.spares s ≡ true) × (s ≢ slot)
  spare-before s is = of (nat_lt s 32) (has_spare m.spares s) (slot == s) refl refl (sym (spare-then s) ∙ is)
    where
      other : (slot == s) ≡ false → s ≢ slot
      other apart same = absurd (differ slot s apart (sym same))
        where
          differ : (a b : ℕ) → (a == b) ≡ false → a ≡ b → ⊥
          differ a b e same = grind (arith, nat_tests, e, same)

      of : (a b c : Bool) → has_spare m.spares s ≡ b → (slot == s) ≡ c → (a && (b && not c)) ≡ true → (has_spare m.spares s ≡ true) × (s ≢ slot)
      of false b c has same e = absurd (cc)
      of true false c has same e = absurd (cc)
      of true true true has same e = absurd (cc)
      of true true false has same e = (has, other same)

  -- ---- where all stands

  live-then : (s : ℕ) → is_live W.roles W.spares s ≡ true → IsMember given (own_in W.own s) s
  live-then s is = elim (cases_eq s slot) [
    | inl same ↦ subst (λ (t : ℕ). IsMember given (own_in W.own t) t) (sym same) (record {
      place = to.member.place;
      sb = with_recovery recovery to.member.sb;
      own = own-here;
      writable = writable-given recovery to.member.sb to.member.writable;
    })
    | inr apart ↦ subst (λ (o : Option Sb). IsMember given o s) (sym (own-other s apart)) (placed.live s (was apart (list_any (is_held_by s) W.roles) refl is))
  ]
    where
      or_true : (b : Bool) → (b || true) ≡ true
      or_true true = refl
      or_true false = refl

      was : s ≢ slot → (b : Bool) → list_any (is_held_by s) W.roles ≡ b → (b || has_spare W.spares s) ≡ true → is_live m.roles m.spares s ≡ true
      was apart true holds e =
          let found = any-holds s W.roles holds in
          ⊎_elim
          (λ here. absurd (apart here.1))
          (λ other. ap (λ (b : Bool). b || has_spare m.spares s) (any-held s m.roles found.0 other.2))
          (holder-then found.0 s found.1)
      was apart false holds e = ap (λ (b : Bool). list_any (is_held_by s) m.roles || b) (spare-before s e).0 ∙ or_true (list_any (is_held_by s) m.roles)

  pub placed-given : IsPlaced given W
  placed-given = record {
    fit = placed.fit;
    roles = length-set m.roles role (state_given recovery slot) ∙ placed.roles;
    holders = λ r s is. room-at s (⊎_elim
        (λ here. subst (λ (t : ℕ). IsHolder given (reading_of m) t) (sym here.1) to.room)
        (λ other. placed.holders r s other.2) (holder-then r s is));
    behind = λ r s is. subst (λ (n : ℕ). 10 ≤ n) (sym (offset-same s)) (⊎_elim
        (λ here. subst (λ (t : ℕ). 10 ≤ data_offset_of (reading_of m) t) (sym here.1) to.behind)
        (λ other. placed.behind r s other.2) (holder-then r s is));
    apart = λ a b s one two. ⊎_elim
        (λ here. ⊎_elim (λ there. here.0 ∙ sym there.0) (λ other. absurd (other.1 here.1)) (holder-then b s two))
        (λ other. ⊎_elim (λ there. absurd (other.1 there.1)) (λ both. placed.apart a b s other.2 both.2) (holder-then b s two))
        (holder-then a s one);
    live = live-then;
  }
    where
      room-at : (s : ℕ) → IsHolder given (reading_of m) s → IsHolder given (reading_of W) s
      room-at s h = record { small = h.small; known = h.known; short = h.short; within = rw (offset-same s) h.within }

  pub unlost-given : AreUnlost m → AreUnlost W
  unlost-given unlost r s is = ⊎_elim (λ here. ap (has_slot m.lost) here.1 ∙ to.unlost) (λ other. unlost r s other.2) (holder-then r s is)
