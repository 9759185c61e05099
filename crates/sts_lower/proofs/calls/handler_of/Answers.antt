use Rattle.sts_lower.proofs.Handlers.{handler_none, handler_other, handler_there}
use Rattle.sts_lower.proofs.calls.handler_of.Goals as goal

pub returns-in-empty : goal.returns-in-empty
returns-in-empty c = handler_none c.args.args.now c.in-empty.len_below

pub returns-in-Handler : goal.returns-in-Handler
returns-in-Handler c = handler_there c.args.args.now c.first-item.result c.in-Handler.f c.in-len1-up.len_at_least c.first-item.is c.in-Handler.is

pub returns-in-Num : goal.returns-in-Num
returns-in-Num c = handler_other c.args.args.now c.first-item.result c.in-len1-up.len_at_least c.first-item.is c.in-Num.is

pub returns-in-Num-2 : goal.returns-in-Num-2
returns-in-Num-2 c = handler_other c.args.args.now c.first-item.result c.in-len1-up.len_at_least c.first-item.is c.in-Num.is

pub returns-in-Num-3 : goal.returns-in-Num-3
returns-in-Num-3 c = handler_other c.args.args.now c.first-item.result c.in-len1-up.len_at_least c.first-item.is c.in-Num.is

pub returns-in-Num-4 : goal.returns-in-Num-4
returns-in-Num-4 c = handler_other c.args.args.now c.first-item.result c.in-len1-up.len_at_least c.first-item.is c.in-Num.is

pub returns-in-Num-5 : goal.returns-in-Num-5
returns-in-Num-5 c = handler_other c.args.args.now c.first-item.result c.in-len1-up.len_at_least c.first-item.is c.in-Num.is

pub returns-in-Num-6 : goal.returns-in-Num-6
returns-in-Num-6 c = handler_other c.args.args.now c.first-item.result c.in-len1-up.len_at_least c.first-item.is c.in-Num.is

pub returns-in-Num-7 : goal.returns-in-Num-7
returns-in-Num-7 c = handler_other c.args.args.now c.first-item.result c.in-len1-up.len_at_least c.first-item.is c.in-Num.is

pub returns-in-Num-8 : goal.returns-in-Num-8
returns-in-Num-8 c = handler_other c.args.args.now c.first-item.result c.in-len1-up.len_at_least c.first-item.is c.in-Num.is

pub returns-in-Num-9 : goal.returns-in-Num-9
returns-in-Num-9 c = handler_other c.args.args.now c.first-item.result c.in-len1-up.len_at_least c.first-item.is c.in-Num.is

pub returns-in-Num-10 : goal.returns-in-Num-10
returns-in-Num-10 c = handler_other c.args.args.now c.first-item.result c.in-len1-up.len_at_least c.first-item.is c.in-Num.is

pub returns-in-Num-11 : goal.returns-in-Num-11
returns-in-Num-11 c = handler_other c.args.args.now c.first-item.result c.in-len1-up.len_at_least c.first-item.is c.in-Num.is

pub returns-in-Num-12 : goal.returns-in-Num-12
returns-in-Num-12 c = handler_other c.args.args.now c.first-item.result c.in-len1-up.len_at_least c.first-item.is c.in-Num.is

pub returns-in-Num-13 : goal.returns-in-Num-13
returns-in-Num-13 c = handler_other c.args.args.now c.first-item.result c.in-len1-up.len_at_least c.first-item.is c.in-Num.is

pub returns-in-Num-14 : goal.returns-in-Num-14
returns-in-Num-14 c = handler_other c.args.args.now c.first-item.result c.in-len1-up.len_at_least c.first-item.is c.in-Num.is

pub returns-in-Num-15 : goal.returns-in-Num-15
returns-in-Num-15 c = handler_other c.args.args.now c.first-item.result c.in-len1-up.len_at_least c.first-item.is c.in-Num.is

pub returns-in-Num-16 : goal.returns-in-Num-16
returns-in-Num-16 c = handler_other c.args.args.now c.first-item.result c.in-len1-up.len_at_least c.first-item.is c.in-Num.is

pub returns-in-Num-17 : goal.returns-in-Num-17
returns-in-Num-17 c = handler_other c.args.args.now c.first-item.result c.in-len1-up.len_at_least c.first-item.is c.in-Num.is

pub returns-in-Num-18 : goal.returns-in-Num-18
returns-in-Num-18 c = handler_other c.args.args.now c.first-item.result c.in-len1-up.len_at_least c.first-item.is c.in-Num.is

pub returns-in-Num-19 : goal.returns-in-Num-19
returns-in-Num-19 c = handler_other c.args.args.now c.first-item.result c.in-len1-up.len_at_least c.first-item.is c.in-Num.is

pub returns-in-Num-20 : goal.returns-in-Num-20
returns-in-Num-20 c = handler_other c.args.args.now c.first-item.result c.in-len1-up.len_at_least c.first-item.is c.in-Num.is
