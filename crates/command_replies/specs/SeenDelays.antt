-- The delays of the code, as the definitions have them.
use Rattle.command_replies.specs.declared.delay.Delay.{Delay}
use Rattle.command_replies.specs.declared.delay.Delay.TheVariants.{None, Steps, Never}
use Rattle.delay_bounds.specs.Delays as delays

abbrev pub delay_of : Delay → delays.Delay
delay_of None = delays.None
delay_of (Steps n) = delays.Steps n
delay_of Never = delays.Never
