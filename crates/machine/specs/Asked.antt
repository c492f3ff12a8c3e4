-- Which of the rules' calls a call of the code is.
use Rattle.history.specs.Trace.{Call, give, run, back}
use Rattle.calls.specs.Inputs.{Input, step, tick, receive, sent, set_register, poke, resets}
use Rattle.machine.specs.declared.Call.{Call as CallT}

abbrev pub asked : CallT → Call Input
asked CallT.Step = give step
asked CallT.Tick = give tick
asked (CallT.Receive byte) = give (receive byte)
asked CallT.Sent = give sent
asked (CallT.SetRegister number content) = give (set_register number content)
asked (CallT.Poke address byte) = give (poke address byte)
asked CallT.Reset = give resets
asked (CallT.Run budget) = run budget
asked CallT.Back = back
