-- Interface: what each call of the C interface answers and leaves. Buffers: what is asked of that.
pub mod Interface
pub mod Buffers
