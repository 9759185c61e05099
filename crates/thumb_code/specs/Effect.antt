-- What each instruction does (ARM DDI 0419, A6.7), over whatever memory.
use Rattle.std.specs.Prelude.{ℕ, ◌+◌, ◌*◌, ◌/◌, ◌%◌, ◌^◌, ◌-◌, [], ◌∷◌, ◌++◌, if◌then◌else◌, bit_and, bit_or, bit_xor}
use Rattle.thumb_code.specs.declared.instructions.Instr.{Instr}
use Rattle.thumb_code.specs.declared.instructions.Instr.TheVariants.{LslImm, LsrImm, AsrImm, AddReg, SubReg, AddImm3, SubImm3, MovImm, CmpImm, AddImm8, SubImm8, And, Eor, LslReg, LsrReg, AsrReg, Adc, Sbc, Ror, Tst, Rsb, CmpReg, Cmn, Orr, Mul, Bic, Mvn, AddHigh, CmpHigh, MovHigh, Bx, Blx, LdrPc, StrReg, StrhReg, StrbReg, Ldrsb, LdrReg, LdrhReg, LdrbReg, Ldrsh, StrImm, LdrImm, StrbImm, LdrbImm, StrhImm, LdrhImm, StrSp, LdrSp, Adr, AddSp, AddSpImm, SubSpImm, Sxth, Sxtb, Uxth, Uxtb, Push, Pop, Rev, Rev16, Revsh, Bkpt, Stm, Ldm, BCond, Udf, Svc, B, Bl}
use Rattle.thumb_code.specs.declared.register_file.Registers.{Registers}
use Rattle.thumb_code.specs.Faults.{undefined, breakpoint}
use Rattle.thumb_code.specs.RegisterFile.{word, is_odd, aligned, low, pc_read, reg, listed, values}
use Rattle.thumb_code.specs.Arithmetic.{nz, carry, inverted, sum_flags, lsl, lsr, asr, ror, or_32, signed, swapped, holds}
pub use Rattle.thumb_code.specs.Forms.{Outcome, Goes, Asks, Stops, Access, Effect, ends, go, puts, puts_with, flags_are, adds, subs, compares, logic, shifts, moves, jumps, target, access, loads, unsigned, stores, word_accesses, words_to, pushes, pops, stores_many, loads_many}

-- The instruction's effect, where s.pc is its own address and next the one behind it.
abbrev pub effect : ℕ → Registers → Instr → Effect
effect next s (LslImm rd rm imm) = shifts next s rd lsl (low s rm) imm
effect next s (LsrImm rd rm imm) = shifts next s rd lsr (low s rm) (or_32 imm)
effect next s (AsrImm rd rm imm) = shifts next s rd asr (low s rm) (or_32 imm)
effect next s (AddReg rd rn rm) = adds next s rd (low s rn) (low s rm) 0
effect next s (SubReg rd rn rm) = subs next s rd (low s rn) (low s rm)
effect next s (AddImm3 rd rn imm) = adds next s rd (low s rn) imm 0
effect next s (SubImm3 rd rn imm) = subs next s rd (low s rn) imm
effect next s (MovImm rd imm) = logic next s rd imm
effect next s (CmpImm rd imm) = compares next s (low s rd) imm
effect next s (AddImm8 rd imm) = adds next s rd (low s rd) imm 0
effect next s (SubImm8 rd imm) = subs next s rd (low s rd) imm
effect next s (And rdn rm) = logic next s rdn (bit_and (low s rdn) (low s rm))
effect next s (Eor rdn rm) = logic next s rdn (bit_xor (low s rdn) (low s rm))
effect next s (LslReg rdn rm) = shifts next s rdn lsl (low s rdn) (low s rm % 256)
effect next s (LsrReg rdn rm) = shifts next s rdn lsr (low s rdn) (low s rm % 256)
effect next s (AsrReg rdn rm) = shifts next s rdn asr (low s rdn) (low s rm % 256)
effect next s (Adc rdn rm) = adds next s rdn (low s rdn) (low s rm) (carry s.flags)
effect next s (Sbc rdn rm) = adds next s rdn (low s rdn) (inverted (low s rm)) (carry s.flags)
effect next s (Ror rdn rm) = shifts next s rdn ror (low s rdn) (low s rm % 256)
effect next s (Tst rdn rm) = flags_are next s (nz s.flags (bit_and (low s rdn) (low s rm)))
effect next s (Rsb rdn rm) = subs next s rdn 0 (low s rm)
effect next s (CmpReg rdn rm) = compares next s (low s rdn) (low s rm)
effect next s (Cmn rdn rm) = flags_are next s (sum_flags (low s rdn) (low s rm) 0)
effect next s (Orr rdn rm) = logic next s rdn (bit_or (low s rdn) (low s rm))
effect next s (Mul rdn rm) = logic next s rdn (word (low s rdn * low s rm))
effect next s (Bic rdn rm) = logic next s rdn (bit_and (low s rdn) (inverted (low s rm)))
effect next s (Mvn rdn rm) = logic next s rdn (inverted (low s rm))
effect next s (AddHigh rd rm) = moves next s rd (word (reg s rd + reg s rm))
effect next s (CmpHigh rd rm) = compares next s (reg s rd) (reg s rm)
effect next s (MovHigh rd rm) = moves next s rd (reg s rm)
effect next s (Bx rm) = ends s.sp (jumps s (reg s rm))
effect next s (Blx rm) = ends s.sp (jumps (record s { lr = word (next + 1) }) (reg s rm))
effect next s (LdrPc rt imm) = loads next s rt unsigned (aligned (pc_read s) + imm * 4) 4
effect next s (StrReg rt rn rm) = stores next s rt (low s rn + low s rm) 4
effect next s (StrhReg rt rn rm) = stores next s rt (low s rn + low s rm) 2
effect next s (StrbReg rt rn rm) = stores next s rt (low s rn + low s rm) 1
effect next s (Ldrsb rt rn rm) = loads next s rt (signed 8) (low s rn + low s rm) 1
effect next s (LdrReg rt rn rm) = loads next s rt unsigned (low s rn + low s rm) 4
effect next s (LdrhReg rt rn rm) = loads next s rt unsigned (low s rn + low s rm) 2
effect next s (LdrbReg rt rn rm) = loads next s rt unsigned (low s rn + low s rm) 1
effect next s (Ldrsh rt rn rm) = loads next s rt (signed 16) (low s rn + low s rm) 2
effect next s (StrImm rt rn imm) = stores next s rt (low s rn + imm * 4) 4
effect next s (LdrImm rt rn imm) = loads next s rt unsigned (low s rn + imm * 4) 4
effect next s (StrbImm rt rn imm) = stores next s rt (low s rn + imm) 1
effect next s (LdrbImm rt rn imm) = loads next s rt unsigned (low s rn + imm) 1
effect next s (StrhImm rt rn imm) = stores next s rt (low s rn + imm * 2) 2
effect next s (LdrhImm rt rn imm) = loads next s rt unsigned (low s rn + imm * 2) 2
effect next s (StrSp rt imm) = stores next s rt (s.sp + imm * 4) 4
effect next s (LdrSp rt imm) = loads next s rt unsigned (s.sp + imm * 4) 4
effect next s (Adr rd imm) = puts next s rd (word (aligned (pc_read s) + imm * 4))
effect next s (AddSp rd imm) = puts next s rd (word (s.sp + imm * 4))
effect next s (AddSpImm imm) = go next (record s { sp = word (s.sp + imm * 4) })
effect next s (SubSpImm imm) = go next (record s { sp = word (s.sp + (2 ^ 32 - imm * 4)) })
effect next s (Sxth rd rm) = puts next s rd (signed 16 (low s rm % 2 ^ 16))
effect next s (Sxtb rd rm) = puts next s rd (signed 8 (low s rm % 2 ^ 8))
effect next s (Uxth rd rm) = puts next s rd (low s rm % 2 ^ 16)
effect next s (Uxtb rd rm) = puts next s rd (low s rm % 2 ^ 8)
effect next s (Push list m) = pushes next s (if m then values s (listed list) ++ s.lr ∷ [] else values s (listed list))
effect next s (Pop list p) = pops next s (listed list) p
effect next s (Rev rd rm) = puts next s rd (swapped (low s rm % 2 ^ 16) * 2 ^ 16 + swapped (low s rm / 2 ^ 16))
effect next s (Rev16 rd rm) = puts next s rd (swapped (low s rm / 2 ^ 16) * 2 ^ 16 + swapped (low s rm % 2 ^ 16))
effect next s (Revsh rd rm) = puts next s rd (signed 16 (swapped (low s rm % 2 ^ 16)))
effect next s (Bkpt imm) = ends s.sp (Stops breakpoint)
effect next s (Stm rn list) = stores_many next s rn (listed list)
effect next s (Ldm rn list) = loads_many next s rn (listed list) (is_odd (list / 2 ^ rn))
effect next s (BCond cond offset) = if holds s.flags cond then go (target s offset) s else go next s
effect next s (Udf imm) = ends s.sp (Stops undefined)
effect next s (Svc imm) = ends s.sp (Asks imm (record s { pc = next }))
effect next s (B offset) = go (target s offset) s
effect next s (Bl offset) = go (target s offset) (record s { lr = word (next + 1) })
-- The hints: NOP, YIELD, WFE, WFI and SEV.
effect next s _ = go next s
