-- A flush of an array in a reshape, from what `flush_and_mark` says of it.
use Rattle.std.proofs.Common.{◌≡◌, inl, inr, ℕ, Option, sym, ap, subst}
use Rattle.array_reshaping_resync_laws.specs.history_the_Event.{Event}
use Rattle.array_reshaping_resync_laws.specs.history_Flat.{length_after, limit_after}
use Rattle.array_fixed_laws.specs.array_call_specs_Calls.{IsSettling}
use Rattle.array_reshaping_resync_laws.proofs.array_reshaping_invariant_Settling as law

-- a flush or a stop settles
pub settles-so : (event : Event) → IsSettling event → law.IsSettling event
settles-so event (inl is) = subst law.IsSettling (sym is) law.flush-is
settles-so event (inr is) = subst law.IsSettling (sym is) law.stop-is

-- and it leaves the length of the list, and what is visible of it
pub settling-long : (event : Event) → IsSettling event → (n : ℕ) → length_after n event ≡ n
settling-long event (inl is) n = ap (length_after n) is
settling-long event (inr is) n = ap (length_after n) is

pub settling-free : (event : Event) → IsSettling event → (limit : Option ℕ) → limit_after limit event ≡ limit
settling-free event (inl is) limit = ap (limit_after limit) is
settling-free event (inr is) limit = ap (limit_after limit) is
