-- Why judging stops where no line comes.
use Rattle.proof_lines.specs.declared.line_buffer.LineFault.{LineFault}
use Rattle.proof_lines.specs.declared.line_buffer.LineFault.TheVariants as faults
use Rattle.checker.specs.declared.stop.Stop.TheVariants as stops
use Rattle.checker.specs.declared.stream.StreamStop.{StreamStop}
use Rattle.checker.specs.declared.stream.StreamStop.TheVariants as streams

abbrev pub stop_of : LineFault → StreamStop
stop_of faults.ReadFailed = streams.ReadFailed
stop_of faults.OutOfMemory = streams.Judging stops.NoMemory
