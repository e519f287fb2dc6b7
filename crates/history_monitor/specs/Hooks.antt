-- The closure that a hook asks.
use Rattle.history_monitor.specs.declared.hook.Hook.{Hook}

abbrev pub wanted_by : {F : Type 0} → Hook F → F
wanted_by hook = hook.f
