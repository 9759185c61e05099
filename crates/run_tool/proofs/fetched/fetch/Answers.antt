use Rattle.std.proofs.Common.{refl}
use Rattle.std.specs.Prelude.{IsErrOf}
use Rattle.tool_folder.specs.declared.folder.FetchFault.TheVariants.{NoMemory}
use Rattle.run_tool.proofs.Wanting.{noted-name, noted-or-none}
use Rattle.run_tool.proofs.fetched.fetch.Goals as goal

pub returns-in-Ok-Whole-clause-asked : goal.returns-in-Ok-Whole-clause-asked
returns-in-Ok-Whole-clause-asked g c =
    noted-name (g.F.Folder.asked c.args.folder.now) (g.F.Folder.asked c.fetch.new.self) c.args.name.now (IsErrOf c.fetch.result NoMemory) c.fetch.ensures.noted (λ l. let is = c.in-Ok-Whole.is in absurd (cc))

pub returns-in-Ok-Missing-clause-asked : goal.returns-in-Ok-Missing-clause-asked
returns-in-Ok-Missing-clause-asked g c =
    noted-name (g.F.Folder.asked c.args.folder.now) (g.F.Folder.asked c.fetch.new.self) c.args.name.now (IsErrOf c.fetch.result NoMemory) c.fetch.ensures.noted (λ l. let is = c.in-Ok-Missing.is in absurd (cc))

pub returns-in-Ok-TooLong-clause-asked : goal.returns-in-Ok-TooLong-clause-asked
returns-in-Ok-TooLong-clause-asked g c =
    noted-name (g.F.Folder.asked c.args.folder.now) (g.F.Folder.asked c.fetch.new.self) c.args.name.now (IsErrOf c.fetch.result NoMemory) c.fetch.ensures.noted (λ l. let is = c.in-Ok-TooLong.is in absurd (cc))

pub returns-in-Err-Failed-clause-asked : goal.returns-in-Err-Failed-clause-asked
returns-in-Err-Failed-clause-asked g c =
    noted-name (g.F.Folder.asked c.args.folder.now) (g.F.Folder.asked c.fetch.new.self) c.args.name.now (IsErrOf c.fetch.result NoMemory) c.fetch.ensures.noted (λ l. let is = c.in-Err-Failed.is in absurd (cc))

pub returns-in-Err-NoMemory-clause-lacking : goal.returns-in-Err-NoMemory-clause-lacking
returns-in-Err-NoMemory-clause-lacking g c =
    noted-or-none (g.F.Folder.asked c.args.folder.now) (g.F.Folder.asked c.fetch.new.self) c.args.name.now (IsErrOf c.fetch.result NoMemory) c.fetch.ensures.noted

pub returns-in-Ok-Whole-clause-unfailed : goal.returns-in-Ok-Whole-clause-unfailed
returns-in-Ok-Whole-clause-unfailed g c = λ f. c.fetch.ensures.uncounted (λ l. let is = c.in-Ok-Whole.is in absurd (cc))

pub returns-in-Ok-Missing-clause-unfailed : goal.returns-in-Ok-Missing-clause-unfailed
returns-in-Ok-Missing-clause-unfailed g c = λ f. c.fetch.ensures.uncounted (λ l. let is = c.in-Ok-Missing.is in absurd (cc))

pub returns-in-Ok-TooLong-clause-unfailed : goal.returns-in-Ok-TooLong-clause-unfailed
returns-in-Ok-TooLong-clause-unfailed g c = λ f. c.fetch.ensures.uncounted (λ l. let is = c.in-Ok-TooLong.is in absurd (cc))

pub returns-in-Err-NoMemory-clause-unfailed : goal.returns-in-Err-NoMemory-clause-unfailed
returns-in-Err-NoMemory-clause-unfailed g c = λ f. c.fetch.ensures.uncounted (λ l. let is = c.in-Err-NoMemory.is in absurd (cc))

pub returns-in-Err-Failed-clause-unfailed : goal.returns-in-Err-Failed-clause-unfailed
returns-in-Err-Failed-clause-unfailed g c = λ f. absurd (f refl)
