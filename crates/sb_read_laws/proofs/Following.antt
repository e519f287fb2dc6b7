-- What an update leaves for the next one.
use Rattle.std.proofs.Common.{◌≡◌, ◌⊎◌, inl, inr, ⊎_elim, ℕ, zero, suc, ◌+◌, ◌<◌, ◌≤◌, ◌==◌, Bool, true, false, cond, not, ◌&&◌, nat_lt, List, [], ◌∷◌, ◌++◌, take, drop, map, length, get_or, Option, Some, None, refl, sym, ◌∙◌, ap, subst, arith, length-append}
use Rattle.std.proofs.lemmas.Bool.Decides.{nat_tests}
use Rattle.sb_specs.specs.raid_types_Sectors.{Sector}
use Rattle.sb_specs.specs.raid_types_Shapes.{has_slot}
use Rattle.sb_specs.specs.sb_codec_the_Sb.{Sb}
use Rattle.sb_specs.specs.sb_codec_Superblock.{checksum}
use Rattle.sb_specs.specs.declared.change.Give.{Give}
use Rattle.sb_specs.specs.declared.change.Change.{Change}
use Rattle.sb_specs.specs.declared.members.Members.{Members}
use Rattle.sb_specs.specs.Reading.{Scope, is_fresh, entry_of, holds_role, state_of}
use Rattle.sb_specs.specs.Update.{planned, give_of, own_in, planned_role, is_planned_spare, entry_for, with_roles, faulty_role}
use Rattle.sb_specs.specs.Updating.{AreNamed}
use Rattle.sb_specs.specs.Outcome.{IsStored, IsPlannedOwn, AreStored, is_left}
use Rattle.sb_specs.specs.Reads.{IsSuited, held_in}
use Rattle.sb_specs.specs.Held.{MayRead, IsStamped, IsBefore, IsKnown, Shows}
use Rattle.sb_specs.specs.Stages.{AreLeft}
use Rattle.sb_specs.specs.Rounds.{Round}
use Rattle.sb_read_laws.specs.Following.{AreHeldAlone}
use Rattle.sb_specs.proofs.ReadLists.{by_bool}
use Rattle.sb_specs.proofs.HeldReads.{stamped-suited}
use Rattle.sb_specs.proofs.PlannedSb.{planned-of}
use Rattle.sb_read_laws.proofs.PlanFits.{IsEntered, length-entries, length_mapped, roles-at, entry-is, shown-of}
use Rattle.sb_specs.proofs.UpdateReads.{before-suited}
use Rattle.sb_read_laws.proofs.RoundReads.{IsAt, IsFit, and_first, and_second}

abbrev Disk : Type 0
Disk = ℕ → ℕ → List Sector

-- ---- numbers and lists

both_parts : (n : ℕ) (l : List ℕ) → length (take n l) + length (drop n l) ≡ length l
both_parts zero l = omega arith
both_parts (suc n) [] = refl
both_parts (suc n) (x ∷ l) = omega (arith, both_parts n l)

is_below : (a b : ℕ) → a < b → nat_lt a b ≡ true
is_below a b h = grind (arith, nat_tests)

equal : (a b : ℕ) → (a == b) ≡ true → a ≡ b
equal a b h = grind (arith, nat_tests)

large : (entry : ℕ) → 0xfffe ≤ faulty_role entry
large entry = omega arith

and_true : (a b : Bool) → (a && b) ≡ true → (a ≡ true) × (b ≡ true)
and_true true b h = (refl, h)
and_true false b h = absurd (cc)

none_of : (set s : ℕ) → (has_slot set s ≡ true → ⊥) → has_slot set s ≡ false
none_of set s never = ⊎_elim (λ is. absurd (never is)) (λ none. none) (by_bool (has_slot set s))

both_ways : {b : Bool} → b ≡ true → b ≡ false → ⊥
both_ways is none = absurd (let both = sym is ∙ none in cc)

-- ---- a slot's superblock with another checksum

known-stamped : (scope : Scope) (newest : Sb) (held held' : Option Sb) (s : ℕ) (d : Disk) (k : IsKnown scope newest held s d) → IsStamped k.sb held' → IsKnown scope newest held' s d
known-stamped scope newest held held' s d k y = record {
  sb = record k.sb { sb_csum = y.0 };
  own = y.1;
  reads = λ found m. let r = k.reads found m in (r.0, r.1, before r.0 r.2);
  second = λ sector is_in. let h = k.second sector is_in in record { long = h.long; bytes = h.bytes; entries = h.entries };
  seen = k.seen;
  long = k.long;
  there = k.there;
  array = k.array;
  fresh = k.fresh;
  number = k.number;
  late = k.late;
  lies = k.lies;
  suited = stamped-suited newest (scope.sizes.sectors s) y.0 k.sb k.suited;
}
  where
    before : (sb : Sb) → IsBefore newest k.sb sb → IsBefore newest (record k.sb { sb_csum = y.0 }) sb
    before sb b = record {
      events = b.events;
      fresh = b.fresh;
      number = b.number;
      start = b.start;
      table = b.table;
      refused = b.refused;
      recovering = b.recovering;
      offset = b.offset;
      late = b.late;
    }

stamped_stored : (sb : Sb) (stored : Option Sb) → IsStored sb stored → IsStamped sb stored
stamped_stored sb stored s = (checksum s.bytes, s.own ∙ ap (λ (x : Sb). Some x) s.fields)

stamped_planned : (newest : Sb) (g : Give) (own stored : Option Sb) (sb : Sb) → own ≡ Some sb → IsPlannedOwn newest g own stored → IsStamped (planned newest g sb) stored
stamped_planned newest g own stored sb is p = stamped_stored (planned newest g sb) stored (subst (λ (o : Option Sb). IsPlannedOwn newest g o stored) is p)

module _ (scope : Scope) (members : Members) (change : Change) (before live known left0 : ℕ) (Unnamed : ℕ → Type 0) (fit : IsFit scope known left0 members change live)
    (n : ℕ) (b : Round) (at : IsAt scope members change before live Unnamed n b) (named : AreNamed members change before b.lost b.newest)
    (own : List (Option Sb)) (stored : AreStored b.newest change.gives (is_left live b.lost) members.own own) (left : ℕ) (are : AreLeft live b.lost left) where
  left_live : (s : ℕ) → has_slot left s ≡ true → has_slot live s ≡ true
  left_live s is = and_first (has_slot live s) (has_slot b.lost s) (sym (are s) ∙ is)

  left_kept : (s : ℕ) → has_slot left s ≡ true → has_slot b.lost s ≡ false
  left_kept s is = and_second (has_slot live s) (has_slot b.lost s) (sym (are s) ∙ is)

  not_gone : (s : ℕ) → has_slot b.lost s ≡ false → has_slot at.gone s ≡ false
  not_gone s none = none_of at.gone s (λ is. both_ways (at.grown s is) none)

  left_known : (s : ℕ) → has_slot left s ≡ true → has_slot at.known s ≡ true
  left_known s is = at.are s ∙ (λ i. left_live s is i && not (not_gone s (left_kept s is) i))

  -- a known slot that isn't left was lost
  lost_known : (s : ℕ) → has_slot at.known s ≡ true → has_slot left s ≡ false → has_slot b.lost s ≡ true
  lost_known s is none = ⊎_elim (λ gone. gone)
      (λ kept. absurd (both_ways (are s ∙ (λ i. and_first (has_slot live s) (has_slot at.gone s) (sym (at.are s) ∙ is) i && not (kept i))) none)) (by_bool (has_slot b.lost s))

  stamp : (s : ℕ) (is : has_slot left s ≡ true) → IsStamped (at.held.each s (left_known s is)).sb (own_in own s)
  stamp s is =
      let k = at.held.each s (left_known s is) in
      let was = at.own_was s (left_known s is) in
      let same : planned b.newest (give_of change.gives s) was.0 ≡ k.sb = (let both : Some (planned b.newest (give_of change.gives s) was.0) ≡ Some k.sb = sym (at.own_is s was.0 (left_known s is) was.1) ∙ k.own in cc) in
      subst (λ (z : Sb). IsStamped z (own_in own s)) same
      (stamped_planned b.newest (give_of change.gives s) (own_in members.own s) (own_in own s) was.0 was.1 (stored.written s (λ i. left_live s is i && not (left_kept s is i))))

  -- ---- the lost slots are named

  table : List ℕ
  table = named.0

  long : 128 ≤ length named.0
  long =
      let roles : length (with_roles members change before b.lost named.0) ≡ 384 = ap length (sym named.1) ∙ at.held.table in
      let entries = length-entries (entry_for members change before b.lost) members.own 32 (map faulty_role (take 128 named.0) ++ drop 128 named.0) in
      let whole = length-append (map faulty_role (take 128 named.0)) (drop 128 named.0) in
      let front = length_mapped faulty_role (take 128 named.0) in
      let parts = both_parts 128 named.0 in
      omega (arith, roles, entries, whole, front, parts)

  entry_front : (dev : ℕ) → dev < 128 → entry_of b.newest dev ≡ get_or (with_roles members change before b.lost named.0) dev 0xfffe
  entry_front dev h =
      ap (λ e. cond e (get_or b.newest.dev_roles dev 0xfffe) 0xfffe) (is_below dev b.newest.max_dev (let room = at.held.sound.room in omega (arith, h, room)))
      ∙ ap (λ (l : List ℕ). get_or l dev 0xfffe) named.1

  -- a role's entry is that of a slot that is left
  abbrev Holds : ℕ → Type 0
  Holds dev = (t : ℕ) × (is : has_slot left t ≡ true) × ((at.held.each t (left_known t is)).sb.dev_number ≡ dev)

  holder : (dev entry : ℕ) → entry < 0xfffe → IsEntered (entry_for members change before b.lost) members.own 32 dev entry → Holds dev
  holder dev entry small (t, lt, sb, is, own_is, number) = of (entry-is (has_slot before t) (has_slot b.lost t) (planned_role members.roles (give_of change.gives t) t)
      (is_planned_spare members.spares change.added (give_of change.gives t) t) entry is (λ same. absurd (omega (arith, same, small))))
    where
      unlost : has_slot b.lost t ≡ false → has_slot members.lost t ≡ false
      unlost none = none_of members.lost t (λ gone. both_ways (at.grown t (at.named_gone t (at.more t gone))) none)

      of : (has_slot b.lost t ≡ false) × ((planned_role members.roles (give_of change.gives t) t ≡ Some entry) ⊎ ((entry ≡ 0xffff) × (is_planned_spare members.spares change.added (give_of change.gives t) t ≡ true))) → Holds dev
      of (none, inr (spare, it)) = absurd (omega (arith, spare, small))
      of (none, inl role) =
          let first = fit.fits.role t entry (unlost none) role in
          let is_live = and_first (has_slot live t) (has_slot members.lost t) (sym (fit.are t) ∙ first) in
          let is_left_ : has_slot left t ≡ true = are t ∙ (λ i. is_live i && not (none i)) in
          let k = at.held.each t (left_known t is_left_) in
          let same : planned b.newest (give_of change.gives t) sb ≡ k.sb = (let both : Some (planned b.newest (give_of change.gives t) sb) ≡ Some k.sb = sym (at.own_is t sb (left_known t is_left_) own_is) ∙ k.own in cc) in
          (t, is_left_, ap (λ (z : Sb). z.dev_number) (sym same) ∙ (planned-of b.newest sb (give_of change.gives t)).number ∙ number)

  no_holder : (s role : ℕ) (is : has_slot at.known s ≡ true) → has_slot left s ≡ false → role < 16 → entry_of b.newest (at.held.each s is).sb.dev_number ≡ role → ⊥
  no_holder s role is none h entry =
      let k = at.held.each s is in
      let dev : ℕ = k.sb.dev_number in
      ⊎_elim
      (λ faulty. let big = large (get_or named.0 k.sb.dev_number 0xfffe) in let e = entry_front k.sb.dev_number k.number in absurd (omega (arith, big, faulty, e, entry, h)))
      (λ entered.
      let e = entry_front k.sb.dev_number k.number in
      let t = holder k.sb.dev_number (get_or (with_roles members change before b.lost named.0) k.sb.dev_number 0xfffe) (omega (arith, e, entry, h)) entered in
      let other = at.held.each t.0 (left_known t.0 t.1) in
      at.held.apart s t.0 k.sb other.sb (λ same. both_ways t.1 (subst (λ (r : ℕ). has_slot left r ≡ false) same none)) (inl (is, k.own)) (inl (left_known t.0 t.1, other.own)) k.fresh other.fresh (sym t.2))
      (roles-at members change before b.lost named.0 long k.sb.dev_number 0xfffe k.number)

  idle : (s role : ℕ) (found : Option Sb) → has_slot at.known s ≡ true → has_slot left s ≡ false → role < 16 → MayRead scope b.disk s found → held_in b.newest role s found ≡ None
  idle s role found is none h m =
      let k = at.held.each s is in
      let r = k.reads found m in
      ap (held_in b.newest role s) r.1.1 ∙ ⊎_elim
      (λ holds. absurd (
      let parts = and_true (is_fresh b.newest r.0) (entry_of b.newest r.0.dev_number == role) holds in
      no_holder s role is none h (ap (entry_of b.newest) (sym r.2.number) ∙ equal (entry_of b.newest r.0.dev_number) role parts.1)))
      (λ not. ap (λ e. cond e (Some (state_of s (record r.0 { sb_csum = r.1.0 }))) None) not) (by_bool (holds_role b.newest role r.0))

  known_suited : (s : ℕ) (sb : Sb) → has_slot at.known s ≡ true → MayRead scope b.disk s (Some sb) → IsSuited b.newest (scope.sizes.sectors s) sb
  known_suited s sb is m =
      let k = at.held.each s is in
      let r = k.reads (Some sb) m in
      let same : record r.0 { sb_csum = r.1.0 } ≡ sb = (let both = r.1.1 in cc) in
      subst (IsSuited b.newest (scope.sizes.sectors s)) same
      (stamped-suited b.newest (scope.sizes.sectors s) r.1.0 r.0 (before-suited scope b.newest (own_in at.own s) s b.disk k at.held.sound at.held.table r.0 r.2))

  shows : (s : ℕ) (a : Sb) → Shows scope left own b.disk s a → is_fresh b.newest a ≡ true → (z : Sb) × Shows scope at.known at.own b.disk s z × (is_fresh b.newest z ≡ true) × (z.dev_number ≡ a.dev_number)
  shows s a (inl (is, own_is)) fresh =
      let k = at.held.each s (left_known s is) in
      let y = stamp s is in
      let same : record k.sb { sb_csum = y.0 } ≡ a = (let both : Some (record k.sb { sb_csum = y.0 }) ≡ Some a = sym y.1 ∙ own_is in cc) in
      (k.sb, inl (left_known s is, k.own), k.fresh, ap (λ (z : Sb). z.dev_number) same)
  shows s a (inr (none, m)) fresh = shown-of scope at.known b.lost b.newest at.own b.disk at.held s a m fresh

  pub next-held : AreHeldAlone scope left b.lost b.newest own b.disk
  next-held = record {
    held = record {
      sound = at.held.sound;
      table = at.held.table;
      each = λ s is. known-stamped scope b.newest (own_in at.own s) (own_in own s) s b.disk (at.held.each s (left_known s is)) (stamp s is);
      others = λ s there none. ⊎_elim
          (λ is. record {
            suited = λ sb m. known_suited s sb is m;
            role = λ role found h m. idle s role found is none h m;
            spare = λ found kept m. absurd (both_ways (lost_known s is none) kept);
          })
          (λ no. at.held.others s there no) (by_bool (has_slot at.known s));
      top = at.held.top;
      first = at.held.first;
      apart = λ s t x y differ is is' fresh fresh'.
          let p = shows s x is fresh in
          let q = shows t y is' fresh' in
          let numbers = at.held.apart s t p.0 q.0 differ p.1 q.1 p.2 q.2 in
          λ same. numbers (p.3 ∙ same ∙ sym q.3);
    };
    exact = λ s sb found is own_is m.
        let k = at.held.each s (left_known s is) in
        let y = stamp s is in
        let same : record k.sb { sb_csum = y.0 } ≡ sb = (let both : Some (record k.sb { sb_csum = y.0 }) ≡ Some sb = sym y.1 ∙ own_is in cc) in
        let x = at.exact s k.sb found (left_live s is) (left_kept s is) k.own m in
        (x.0, x.1 ∙ ap (λ (z : Sb). Some (record z { sb_csum = x.0 })) same);
  }
