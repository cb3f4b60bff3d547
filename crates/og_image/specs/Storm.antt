-- The storm: each hart adds 1 to doublewords of eight pages that a generator of its own picks.
use Rattle.std.specs.Prelude.{ℕ, ◌+◌, ◌*◌, ◌^◌, ◌%◌, List, [], ◌∷◌, ◌++◌, true, false}
use Rattle.std.specs.List.{flat_map}
use Rattle.byteorder.specs.Endian.{little_bytes}
use Rattle.og_elf.specs.declared.segment.Segment.{Segment}
use Rattle.og_image.specs.Image.{ImageState, image_of}

-- instruction words of the forms U, I and R
abbrev pub upper : ℕ → ℕ → ℕ
upper rd imm = imm * 2 ^ 12 + rd * 2 ^ 7 + 0x37

abbrev pub immediate : ℕ → ℕ → ℕ → ℕ → ℕ → ℕ
immediate opcode funct3 rd rs1 imm = imm * 2 ^ 20 + (rs1 * 2 ^ 15 + funct3 * 2 ^ 12 + rd * 2 ^ 7 + opcode)

abbrev pub register : ℕ → ℕ → ℕ → ℕ → ℕ
register funct3 rd rs1 rs2 = rs2 * 2 ^ 20 + rs1 * 2 ^ 15 + funct3 * 2 ^ 12 + rd * 2 ^ 7 + 0x33

-- t0 is x5, t1 x6, t2 x7, s0 x8, s1 x9, a0 x10, a1 x11, a7 x17, t3 x28, t4 x29
abbrev pub storm_words : ℕ → List ℕ
storm_words loops =
    (upper 5 16)  -- lui t0,16
    ∷ (immediate 0x03 3 8 5 88)  -- ld s0,88(t0)
    ∷ (immediate 0x13 1 8 8 8)  -- slli s0,s0,8
    ∷ (register 0 8 8 10)  -- add s0,s0,a0
    ∷ (upper 11 256)  -- lui a1,256
    ∷ (upper 7 8)  -- lui t2,8
    ∷ (immediate 0x13 0 7 7 (4088))  -- addi t2,t2,-8
    ∷ (immediate 0x13 0 28 0 1)  -- addi t3,x0,1
    ∷ (immediate 0x13 0 9 0 loops)  -- addi s1,x0,LOOPS
    ∷ (immediate 0x13 1 6 8 13)  -- slli t1,s0,13
    ∷ (register 4 8 8 6)  -- xor s0,s0,t1
    ∷ (immediate 0x13 5 6 8 7)  -- srli t1,s0,7
    ∷ (register 4 8 8 6)  -- xor s0,s0,t1
    ∷ (immediate 0x13 1 6 8 17)  -- slli t1,s0,17
    ∷ (register 4 8 8 6)  -- xor s0,s0,t1
    ∷ (register 7 6 8 7)  -- and t1,s0,t2
    ∷ (register 0 6 6 11)  -- add t1,t1,a1
    ∷ (28 * 2 ^ 20 + 6 * 2 ^ 15 + 3 * 2 ^ 12 + 29 * 2 ^ 7 + 0x2f)  -- amoadd.d t4,t3,(t1)
    ∷ (immediate 0x13 0 9 9 (4095))  -- addi s1,s1,-1
    ∷ (0x7e * 2 ^ 25 + 9 * 2 ^ 15 + 1 * 2 ^ 12 + 0x19 * 2 ^ 7 + 0x63)  -- bne s1,x0,-40
    ∷ (immediate 0x13 0 17 0 93)  -- addi a7,x0,93
    ∷ (0x73)  -- ecall
    ∷ []

-- the words, then the constant from which the harts' generators start
abbrev pub storm_bytes : ℕ → ℕ → List ℕ
storm_bytes number loops = flat_map (little_bytes 4) (storm_words loops) ++ little_bytes 8 (number % 2 ^ 32 + 1)

-- 96 bytes of text, and eight pages of zeros
abbrev pub storm_segments : ℕ → ℕ → List Segment
storm_segments number loops =
    record { addr = 0x10000; size = 96; bytes = storm_bytes number loops; writable = false; runnable = true }
    ∷ record { addr = 0x100000; size = 32768; bytes = []; writable = true; runnable = false }
    ∷ []

abbrev pub storm_of : ℕ → ℕ → ℕ → ImageState
storm_of number loops nodes = image_of 0x10000 (storm_segments number loops) nodes
