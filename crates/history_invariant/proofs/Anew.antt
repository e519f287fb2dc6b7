-- The device numbers that slots may bear may be told anew: what was safe stays so.
use Rattle.std.proofs.Common.{inl, inr, ⊎_elim, ℕ, Bool, List}
use Rattle.array_call_specs.specs.bank_Given.{Given}
use Rattle.array_call_specs.specs.bank_Tape.{disk}
use Rattle.array_call_specs.specs.sb_specs_the_Members.{Members}
use Rattle.array_call_specs.specs.history_the_Entry.{Entry}
use Rattle.array_call_specs.specs.history_World.{World}
use Rattle.array_call_specs.specs.history_Sound.{OpensFit}
use Rattle.array_call_specs.specs.crash_safety_laws_Carried.{AreToldAnew}
use Rattle.array_call_specs.proofs.crash_safety_laws_Steady.{seen-anew, numbers-stay-safe}
use Rattle.history_invariant.specs.Safe.{IsNowRight, IsSafeHistory}
use Rattle.history_invariant.specs.Told.{told_now}

now-anew : (world : World) (given : Given) (members : Members) (carried carried' : ℕ → ℕ → Bool) (reshaping : Bool) (entries : List Entry) → AreToldAnew members carried carried'
    → IsNowRight world given members carried reshaping entries → IsNowRight world given members carried' reshaping entries
now-anew world given members carried carried' reshaping entries anew (inl safe) =
    inl (numbers-stay-safe (OpensFit world) world.scope given (told_now world carried reshaping entries) carried' members (disk given.start world.tape) anew safe)
now-anew world given members carried carried' reshaping entries anew (inr unkept) = inr (record {
  place = unkept.place;
  left_out = unkept.left_out;
  spent = record {
    right = λ c drawn. ⊎_elim (λ seen. inl seen) (λ seen. inr (seen-anew (OpensFit world) world.scope given (told_now world carried reshaping entries) carried' (disk given.start world.tape) c seen)) (unkept.spent.right c drawn);
    none = unkept.spent.none;
  };
})

pub history-anew : (claims : Type 0) (world : World) (given : Given) (members : Members) (carried carried' : ℕ → ℕ → Bool) (reshaping : Bool) (entries : List Entry) → AreToldAnew members carried carried'
    → IsSafeHistory claims world given members carried reshaping entries → IsSafeHistory claims world given members carried' reshaping entries
history-anew claims world given members carried carried' reshaping entries anew safe = record {
  past = safe.past;
  sound = safe.sound;
  now = now-anew world given members carried carried' reshaping entries anew safe.now;
  counted = safe.counted;
}
