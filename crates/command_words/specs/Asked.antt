-- The command of the code, as the definitions have it.
use Rattle.std.specs.Prelude.{option_map}
use Rattle.command_words.specs.Words as words
use Rattle.command_words.specs.Listed.{pairs_in}
use Rattle.command_words.specs.declared.command.Command.{Command}
use Rattle.command_words.specs.declared.command.Command.TheVariants.{Usage, Print, Do}
use Rattle.command_words.specs.declared.command.Work.{Work}
use Rattle.command_words.specs.declared.command.Source.{Source}
use Rattle.command_words.specs.declared.command.Source.TheVariants.{File, Ring}
use Rattle.command_words.specs.declared.command.Job.{Job}
use Rattle.command_words.specs.declared.command.Job.TheVariants.{Decide, Recheck, Delay, Replay}
use Rattle.command_words.specs.declared.command.Job.TheVariants.{Strong}

abbrev pub source_asked : Source → words.Source
source_asked (File name) = words.File name.now
source_asked (Ring n) = words.Ring n

abbrev pub job_asked : Job → words.Job
job_asked (Decide name) = words.Decide (option_map (λ s. s.now) name)
job_asked (Recheck name) = words.Recheck name.now
job_asked (Delay from to) = words.Delay from to
job_asked (Replay name) = words.Replay name.now
job_asked (Strong pairs) = words.Strong (pairs_in pairs)

abbrev pub work_asked : Work → words.Work
work_asked work
    = record { source = source_asked work.source; limit = work.limit; job = job_asked work.job }

abbrev pub asked : Command → words.Command
asked Usage = words.Usage
asked (Print n) = words.Print n
asked (Do work) = words.Do (work_asked work)
