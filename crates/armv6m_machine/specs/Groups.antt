-- The instructions by what they do: one function executes each group.
use Rattle.thumb_code.specs.declared.instructions.Instr.{Instr}
use Rattle.thumb_code.specs.declared.instructions.Instr.TheVariants.{LslImm, LsrImm, AsrImm, LslReg, LsrReg, AsrReg, Ror, SubReg, AddImm3, SubImm3, AddImm8, SubImm8, Adc, Sbc, Rsb, Cmn, CmpHigh, MovImm, And, Eor, Tst, Orr, Mul, Bic, Mvn, AddHigh, MovHigh, Adr, AddSp, AddSpImm, SubSpImm, Sxth, Sxtb, Uxth, Uxtb, Rev, Rev16, Revsh, LdrPc, Ldrsb, LdrReg, LdrhReg, LdrbReg, Ldrsh, LdrImm, LdrbImm, LdrhImm, StrReg, StrhReg, StrbReg, StrImm, StrbImm, StrhImm, Push, Pop, Stm, Ldm, Bx, Blx, B, Bl, Bkpt, Nop, Yield, Wfe, Wfi, Sev, Udf, Svc}

pub data Group : Type 0 where
  Shifting : Group  -- a shift or a rotation, by a number or by a register
  Summing : Group  -- a sum or a difference, or the flags of one
  Reckoning : Group  -- a word whose N and Z are set
  Moving : Group  -- a word into a register or SP; the flags stay
  Loading : Group  -- a load of one item
  Storing : Group  -- a store of one item
  MovingMany : Group  -- loads or stores of several words
  Branching : Group  -- a branch, where its condition holds, or a call
  Signalling : Group  -- a breakpoint, a hint, what is undefined for good, or a call for a service
  Commonest : Group  -- in no group, but in the table itself

-- The group of an instruction.
abbrev pub group_of : Instr → Group
group_of (LslImm rd rm imm) = Shifting
group_of (LsrImm rd rm imm) = Shifting
group_of (AsrImm rd rm imm) = Shifting
group_of (LslReg rdn rm) = Shifting
group_of (LsrReg rdn rm) = Shifting
group_of (AsrReg rdn rm) = Shifting
group_of (Ror rdn rm) = Shifting
group_of (SubReg rd rn rm) = Summing
group_of (AddImm3 rd rn imm) = Summing
group_of (SubImm3 rd rn imm) = Summing
group_of (AddImm8 rd imm) = Summing
group_of (SubImm8 rd imm) = Summing
group_of (Adc rdn rm) = Summing
group_of (Sbc rdn rm) = Summing
group_of (Rsb rdn rm) = Summing
group_of (Cmn rdn rm) = Summing
group_of (CmpHigh rd rm) = Summing
group_of (MovImm rd imm) = Reckoning
group_of (And rdn rm) = Reckoning
group_of (Eor rdn rm) = Reckoning
group_of (Tst rdn rm) = Reckoning
group_of (Orr rdn rm) = Reckoning
group_of (Mul rdn rm) = Reckoning
group_of (Bic rdn rm) = Reckoning
group_of (Mvn rdn rm) = Reckoning
group_of (AddHigh rd rm) = Moving
group_of (MovHigh rd rm) = Moving
group_of (Adr rd imm) = Moving
group_of (AddSp rd imm) = Moving
group_of (AddSpImm imm) = Moving
group_of (SubSpImm imm) = Moving
group_of (Sxth rd rm) = Moving
group_of (Sxtb rd rm) = Moving
group_of (Uxth rd rm) = Moving
group_of (Uxtb rd rm) = Moving
group_of (Rev rd rm) = Moving
group_of (Rev16 rd rm) = Moving
group_of (Revsh rd rm) = Moving
group_of (LdrPc rt imm) = Loading
group_of (Ldrsb rt rn rm) = Loading
group_of (LdrReg rt rn rm) = Loading
group_of (LdrhReg rt rn rm) = Loading
group_of (LdrbReg rt rn rm) = Loading
group_of (Ldrsh rt rn rm) = Loading
group_of (LdrImm rt rn imm) = Loading
group_of (LdrbImm rt rn imm) = Loading
group_of (LdrhImm rt rn imm) = Loading
group_of (StrReg rt rn rm) = Storing
group_of (StrhReg rt rn rm) = Storing
group_of (StrbReg rt rn rm) = Storing
group_of (StrImm rt rn imm) = Storing
group_of (StrbImm rt rn imm) = Storing
group_of (StrhImm rt rn imm) = Storing
group_of (Push list m) = MovingMany
group_of (Pop list p) = MovingMany
group_of (Stm rn list) = MovingMany
group_of (Ldm rn list) = MovingMany
group_of (Bx rm) = Branching
group_of (Blx rm) = Branching
group_of (B offset) = Branching
group_of (Bl offset) = Branching
group_of (Bkpt imm) = Signalling
group_of Nop = Signalling
group_of Yield = Signalling
group_of Wfe = Signalling
group_of Wfi = Signalling
group_of Sev = Signalling
group_of (Udf imm) = Signalling
group_of (Svc imm) = Signalling
group_of _ = Commonest
