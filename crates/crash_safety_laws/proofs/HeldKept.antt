-- What is written elsewhere than in the superblocks, and each flush, leaves them held.
use Rattle.std.proofs.Common.{◌≡◌, ◌≢◌, ◌⊎◌, inl, inr, ℕ, ◌==◌, ◌&&◌, Bool, true, false, cond, List, [], ◌∷◌, ◌++◌, take, Option, Some, None, refl, sym, ◌∙◌, ap, subst, arith}
use Rattle.std.proofs.lemmas.Bool.Decides.{nat_tests}
use Rattle.crash_views.specs.raid_types_Sectors.{Sector}
use Rattle.sb_update_laws.specs.sb_codec_the_Sb.{Sb}
use Rattle.sb_update_laws.specs.sb_codec_Superblock.{superblock_in}
use Rattle.crash_views.specs.bank_the_Operation.{Operation}
use Rattle.crash_views.specs.bank_the_Operation_TheVariants.{Write, Flush}
use Rattle.crash_views.specs.bank_Tape.{Contents, IsIn, EachMark, disk, run, value_after}
use Rattle.crash_views.proofs.bank_Images.{disk-some}
use Rattle.crash_views.proofs.bank_Marks.{Along, each_mark-along}
use Rattle.crash_views.specs.sb_specs_the_Members.{Members}
use Rattle.crash_views.specs.sb_specs_Reading.{Scope, is_seen, of_array}
use Rattle.crash_views.specs.sb_specs_Update.{own_in}
use Rattle.crash_views.specs.sb_specs_Held.{MayRead, IsKnown, Shows, AreHeld, said_by}
use Rattle.crash_views.specs.sb_specs_Crash.{EachReads}
use Rattle.crash_views.specs.history_Same.{IsElsewhere}
use Rattle.crash_views.proofs.history_SameLaws.{read-same}
use Rattle.crash_safety_laws.specs.Steady.{AreDrawnSuperblocks}
use Rattle.crash_safety_laws.specs.Held.{IsHeldBy, AreElsewhere}
use Rattle.crash_views.specs.Windows.{IsSomewhere}
use Rattle.crash_safety_laws.proofs.Drawn.{filled, filled-drawn, filled-same}

-- the superblocks' sectors of the slots that are looked at have no new values
pub record AreNoNewer (scope : Scope) (d e : ℕ → ℕ → List Sector) : Type 0 where
  pub eighth : (s : ℕ) (v : Sector) → is_seen scope s ≡ true → IsIn (e s 8) v → IsIn (d s 8) v
  pub ninth : (s : ℕ) (v : Sector) → is_seen scope s ≡ true → IsIn (e s 9) v → IsIn (d s 9) v

module _ (scope : Scope) (d e : ℕ → ℕ → List Sector) (some : IsSomewhere d) (fewer : AreNoNewer scope d e) where
  read-before : (s : ℕ) (found : Option Sb) → MayRead scope e s found → MayRead scope d s found
  read-before s found m = by (is_seen scope s) refl
    where
      by : (b : Bool) → is_seen scope s ≡ b → MayRead scope d s found
      by true seen = record { at = m.at; eighth = fewer.eighth s (m.at 8) seen m.eighth; ninth = fewer.ninth s (m.at 9) seen m.ninth; is = m.is }
      by false unseen = record {
        at = λ k. (some s k).0;
        eighth = (some s 8).1;
        ninth = (some s 9).1;
        is =
            (λ i. of_array scope.uuid (cond (unseen i) (superblock_in (scope.sizes.sectors s) (λ k. (some s k).0)) None))
            ∙ sym (λ i. of_array scope.uuid (cond (unseen i) (superblock_in (scope.sizes.sectors s) m.at) None)) ∙ m.is;
      }

  module _ (known lost : ℕ) (newest : Sb) (own : List (Option Sb)) where
    known-still : (s : ℕ) → IsKnown scope newest (own_in own s) s d → IsKnown scope newest (own_in own s) s e
    known-still s k = record {
      sb = k.sb;
      own = k.own;
      reads = λ found m. k.reads found (read-before s found m);
      second = λ sector is. k.second sector (fewer.ninth s sector k.seen is);
      seen = k.seen;
      long = k.long;
      there = k.there;
      array = k.array;
      fresh = k.fresh;
      number = k.number;
      late = k.late;
      lies = k.lies;
      suited = k.suited;
    }

    shown-before : (s : ℕ) (sb : Sb) → Shows scope known own e s sb → Shows scope known own d s sb
    shown-before s sb (inl is) = inl is
    shown-before s sb (inr other) = inr (other.0, read-before s (Some sb) other.1)

    held-still : AreHeld scope known lost newest own d → AreHeld scope known lost newest own e
    held-still h = record {
      sound = h.sound;
      table = h.table;
      each = λ s is. known-still s (h.each s is);
      others = λ s there none. let o = h.others s there none in record {
        suited = λ sb m. o.suited sb (read-before s (Some sb) m);
        role = λ role found small m. o.role role found small (read-before s found m);
        spare = λ found left m. o.spare found left (read-before s found m);
      };
      top = (h.top.0, h.top.1, λ found m. h.top.2 found (read-before h.top.0 found m));
      first = λ s sb f. h.first s sb (record {
        there = f.there;
        shown = f.shown;
        may = λ t low. read-before t (f.shown t) (f.may t low);
        is = f.is;
        events = f.events;
        none = f.none;
      });
      apart = λ s t a b differ is is' fresh fresh'. h.apart s t a b differ (shown-before s a is) (shown-before t b is') fresh fresh';
    }

    reads-still : EachReads scope lost (said_by scope known own newest) d → EachReads scope lost (said_by scope known own newest) e
    reads-still reads c drawn =
        let on : AreDrawnSuperblocks scope d c = record { eighth = λ s seen. fewer.eighth s (c s 8) seen (drawn s).0; ninth = λ s seen. fewer.ninth s (c s 9) seen (drawn s).1 } in
        let r = reads (filled scope d some c on) (filled-drawn scope d some c on) in
        record { found = r.found; is = sym (read-same scope (filled scope d some c on) c (filled-same scope d some c on)) ∙ r.is; same = r.same }

  pub held-fewer : (members : Members) → IsHeldBy scope members d → IsHeldBy scope members e
  held-fewer members h = record {
    known = h.known;
    live = h.live;
    updated = record {
      held = held-still h.known members.lost members.newest members.own h.updated.held;
      exact = λ s sb found is own m. h.updated.exact s sb found is own (read-before s found m);
      reads = reads-still h.known members.lost members.newest members.own h.updated.reads;
    };
    said = h.said;
  }

-- ---- operations

after-one : (d : ℕ → ℕ → List Sector) (op : Operation) → IsSomewhere d → IsSomewhere (run d (op ∷ []))
after-one d (Write t j w) some s k = of ((t == s) && (j == k))
  where
    of : (b : Bool) → (v : Sector) × IsIn (cond b (w ∷ d s k) (d s k)) v
    of true = (w, inl refl)
    of false = some s k
after-one d (Flush t) some s k = of (t == s) (d s k) (some s k)
  where
    of : (b : Bool) (values : List Sector) → (v : Sector) × IsIn values v → (v : Sector) × IsIn (cond b (take 1 values) values) v
    of true [] (v, none) = absurd none
    of true (w ∷ values) found = (w, inl refl)
    of false values found = found

flushed-fewer : (scope : Scope) (d : ℕ → ℕ → List Sector) (t : ℕ) → AreNoNewer scope d (run d (Flush t ∷ []))
flushed-fewer scope d t = record { eighth = λ s v seen is. first (t == s) (d s 8) v is; ninth = λ s v seen is. first (t == s) (d s 9) v is }
  where
    first : (b : Bool) (values : List Sector) (v : Sector) → IsIn (cond b (take 1 values) values) v → IsIn values v
    first true [] v is = is
    first true (w ∷ values) v (inl here) = inl here
    first true (w ∷ values) v (inr none) = absurd none
    first false values v is = is

written-fewer : (scope : Scope) (d : ℕ → ℕ → List Sector) (t j : ℕ) (w : Sector) → IsElsewhere scope t j → AreNoNewer scope d (run d (Write t j w ∷ []))
written-fewer scope d t j w elsewhere = record {
  eighth = λ s v seen is. subst (λ (values : List Sector). IsIn values v) (other s 8 (apart s 8 seen elsewhere (inl refl))) is;
  ninth = λ s v seen is. subst (λ (values : List Sector). IsIn values v) (other s 9 (apart s 9 seen elsewhere (inr refl))) is;
}
  where
    other : (s k : ℕ) → ((t == s) && (j == k)) ≡ false → run d (Write t j w ∷ []) s k ≡ d s k
    other s k not = ap (λ b. cond b (w ∷ d s k) (d s k)) not

    apart : (s k : ℕ) → is_seen scope s ≡ true → IsElsewhere scope t j → (k ≡ 8) ⊎ (k ≡ 9) → ((t == s) && (j == k)) ≡ false
    apart s k seen (inl not) (inl e) = let at : j ≢ 8 = not.0 in grind (arith, nat_tests, e, at)
    apart s k seen (inl not) (inr e) = let at : j ≢ 9 = not.1 in grind (arith, nat_tests, e, at)
    apart s k seen (inr unseen) e = by (t == s) refl
      where
        by : (b : Bool) → (t == s) ≡ b → (b && (j == k)) ≡ false
        by true same =
            let at : t ≡ s = grind (arith, nat_tests, same) in
            let here : is_seen scope t ≡ true = subst (λ n. is_seen scope n ≡ true) (sym at) seen in absurd (cc)
        by false same = refl

-- at each operation elsewhere they stay held
pub held-along : (scope : Scope) (members : Members) (d : ℕ → ℕ → List Sector) (ops : List Operation) → IsSomewhere d → AreElsewhere scope ops → IsHeldBy scope members d
    → Along (IsHeldBy scope members) d ops
held-along scope members d [] some elsewhere h = h
held-along scope members d (Write t j w ∷ ops) some elsewhere h = (
  h,
  held-along scope members (run d (Write t j w ∷ [])) ops (after-one d (Write t j w) some) elsewhere.1
      (held-fewer scope d (run d (Write t j w ∷ [])) some (written-fewer scope d t j w elsewhere.0) members h),
)
held-along scope members d (Flush t ∷ ops) some elsewhere h = (
  h,
  held-along scope members (run d (Flush t ∷ [])) ops (after-one d (Flush t) some) elsewhere
      (held-fewer scope d (run d (Flush t ∷ [])) some (flushed-fewer scope d t) members h),
)

-- and so at each mark of a tape that goes on with them
pub held-marks : (tells : Type 0) (scope : Scope) (members : Members) (start : Contents) (tape ops : List Operation) → AreElsewhere scope ops → IsHeldBy scope members (disk start tape)
    → EachMark tells start tape (tape ++ ops) (IsHeldBy scope members)
held-marks tells scope members start tape ops elsewhere h =
    each_mark-along tells start tape ops (IsHeldBy scope members)
    (held-along scope members (disk start tape) ops (λ s k. (value_after s k (start s k) tape, disk-some start tape s k)) elsewhere h)
