-- Superblocks that are held are so wherever a stop may leave the same in their sectors.
use Rattle.std.proofs.Common.{◌≡◌, inl, inr, ℕ, List, Option, Some, subst}
use Rattle.crash_views.specs.raid_types_Sectors.{Sector}
use Rattle.sb_update_laws.specs.sb_codec_the_Sb.{Sb}
use Rattle.crash_views.specs.bank_Tape.{Contents, IsIn}
use Rattle.crash_views.specs.sb_specs_the_Members.{Members}
use Rattle.crash_views.specs.sb_specs_Reading.{Scope}
use Rattle.crash_views.specs.sb_specs_Update.{own_in}
use Rattle.crash_views.specs.sb_specs_Held.{AreDrawn, MayRead, IsKnown, Shows, AreHeld}
use Rattle.crash_safety_laws.specs.Held.{IsHeldBy}

module _ (scope : Scope) (d e : ℕ → ℕ → List Sector) (eighth : (s : ℕ) → e s 8 ≡ d s 8) (ninth : (s : ℕ) → e s 9 ≡ d s 9) where
  was-eighth : (s : ℕ) (v : Sector) → IsIn (e s 8) v → IsIn (d s 8) v
  was-eighth s v may = subst (λ (l : List Sector). IsIn l v) (eighth s) may

  was-ninth : (s : ℕ) (v : Sector) → IsIn (e s 9) v → IsIn (d s 9) v
  was-ninth s v may = subst (λ (l : List Sector). IsIn l v) (ninth s) may

  was-read : (s : ℕ) (found : Option Sb) → MayRead scope e s found → MayRead scope d s found
  was-read s found m = record { at = m.at; eighth = was-eighth s (m.at 8) m.eighth; ninth = was-ninth s (m.at 9) m.ninth; is = m.is }

  was-drawn : (c : Contents) → AreDrawn e c → AreDrawn d c
  was-drawn c drawn slot = (was-eighth slot (c slot 8) (drawn slot).0, was-ninth slot (c slot 9) (drawn slot).1)

  module _ (known lost : ℕ) (newest : Sb) (own : List (Option Sb)) where
    still-known : (s : ℕ) → IsKnown scope newest (own_in own s) s d → IsKnown scope newest (own_in own s) s e
    still-known s k = record {
      sb = k.sb;
      own = k.own;
      reads = λ found m. k.reads found (was-read s found m);
      second = λ sector may. k.second sector (was-ninth s sector may);
      seen = k.seen;
      long = k.long;
      there = k.there;
      array = k.array;
      fresh = k.fresh;
      number = k.number;
      late = k.late;
      lies = k.lies;
      suited = k.suited;
    }

    was-shown : (s : ℕ) (sb : Sb) → Shows scope known own e s sb → Shows scope known own d s sb
    was-shown s sb (inl is) = inl is
    was-shown s sb (inr other) = inr (other.0, was-read s (Some sb) other.1)

    still-held : AreHeld scope known lost newest own d → AreHeld scope known lost newest own e
    still-held h = record {
      sound = h.sound;
      table = h.table;
      each = λ s is. still-known s (h.each s is);
      others = λ s there none.
          let other = h.others s there none in
          record {
            suited = λ sb m. other.suited sb (was-read s (Some sb) m);
            role = λ role found small m. other.role role found small (was-read s found m);
            spare = λ found left m. other.spare found left (was-read s found m);
          };
      top = (h.top.0, h.top.1, λ found m. h.top.2 found (was-read h.top.0 found m));
      first = λ s sb f. h.first s sb (record {
        there = f.there;
        shown = f.shown;
        may = λ t low. was-read t (f.shown t) (f.may t low);
        is = f.is;
        events = f.events;
        none = f.none;
      });
      apart = λ s t a b differ is is' fresh fresh'. h.apart s t a b differ (was-shown s a is) (was-shown t b is') fresh fresh';
    }

  pub held-alike : (members : Members) → IsHeldBy scope members d → IsHeldBy scope members e
  held-alike members h = record {
    known = h.known;
    live = h.live;
    updated = record {
      held = still-held h.known members.lost members.newest members.own h.updated.held;
      exact = λ s sb found is own m. h.updated.exact s sb found is own (was-read s found m);
      reads = λ c drawn. h.updated.reads c (was-drawn c drawn);
    };
    said = h.said;
  }
