use Rattle.std.proofs.Common.{arith}
use Rattle.std.proofs.lemmas.Bool.Decides.{nat_tests}
use Rattle.record.specs.Faults.{interval_parts}
use Rattle.record.proofs.record.Record.interval_body_fault.Goals as goal

pub returns-then-bit-mask : goal.returns-then-bit-mask
returns-then-bit-mask c = λ p m q l. grind (arith, nat_tests, interval_parts c.args.self.file.now c.args.self.at p)

pub returns-then-listed_zero : goal.returns-then-listed_zero
returns-then-listed_zero c = λ p m q l. grind (arith, nat_tests, interval_parts c.args.self.file.now c.args.self.at p)

pub returns : goal.returns
returns c = λ p m q l. grind (arith, nat_tests, interval_parts c.args.self.file.now c.args.self.at p)

pub returns-then-two_at-body_length : goal.returns-then-two_at-body_length
returns-then-two_at-body_length c = λ p m q l. grind (arith, nat_tests, interval_parts c.args.self.file.now c.args.self.at p)
