use Rattle.machine.proofs.act.Goals as goal

pub returns-in-Step : goal.returns-in-Step
returns-in-Step c passed = rw c.in-Step.is c.step.ensures

pub returns-in-Tick : goal.returns-in-Tick
returns-in-Tick c passed = rw c.in-Tick.is (c.tick.ensures c.args.ram.now)

pub returns-in-Receive : goal.returns-in-Receive
returns-in-Receive c passed = rw c.in-Receive.is (c.receive.ensures c.args.ram.now)

pub returns-in-Sent : goal.returns-in-Sent
returns-in-Sent c passed = rw c.in-Sent.is (c.sent.ensures c.args.ram.now)

pub returns-in-SetRegister : goal.returns-in-SetRegister
returns-in-SetRegister c passed = rw c.in-SetRegister.is (c.set_register.ensures c.args.ram.now)

pub returns-in-Poke : goal.returns-in-Poke
returns-in-Poke c passed = rw c.in-Poke.is c.poke.ensures

pub returns-in-Reset : goal.returns-in-Reset
returns-in-Reset c passed = rw c.in-Reset.is (c.reset.ensures c.args.ram.now)

pub returns-in-Run : goal.returns-in-Run
returns-in-Run c passed = rw c.in-Run.is c.run.ensures

pub returns-in-Back : goal.returns-in-Back
returns-in-Back c passed = rw c.in-Back.is (c.step_back.ensures passed)
